-- Fuel, the device and the order of the clients are within their bounds.
use Rattle.std.proofs.Common.{◌≡◌, ℕ, zero, suc, ◌<◌, ◌≤◌, inl, inr, List, [], ◌∷◌, ◌++◌, length, Some, refl, ap, ◌∙◌, arith}
use Rattle.std.specs.Prelude.{slice_get}
use Rattle.std.specs.List.{flat_map}
use Rattle.std.proofs.lemmas.Bool.{cases_lt}
use Rattle.std.proofs.lemmas.List.{length-map}
use Rattle.rl_defs.specs.declared.bundle.Numbered.{Numbered}
use Rattle.rl_defs.specs.declared.bundle.Bundle.{Bundle}
use Rattle.rl_defs.specs.declared.bundle.PlanLine.{PlanLine}
use Rattle.rl_defs.specs.declared.bundle.PlanLine.TheVariants as plan
use Rattle.rl_defs.specs.declared.bundle.ClientLine.{ClientLine}
use Rattle.rl_defs.specs.declared.bundle.ClientLine.TheVariants as client
use Rattle.rl_defs.specs.declared.tables.Tables.{Tables}
use Rattle.rl_defs.specs.BundleNames.{Given, ClientLines, given_by, load_names, load_given, client_names, client_given, script_before, scripts_of, commands_at}
use Rattle.rl_defs.specs.NameRules.{load_used, client_used}
use Rattle.rl_defs.specs.PlanRules.{GoesOver}
use Rattle.rl_defs.specs.LoadOf.{load_number, loads_of, number_in, counted, fuel_in, fuel_of, device_in, device_of, blocks_in, blocks_of, order_in, order_of, client_rows, clients_of}
use Rattle.rl_defs.proofs.Lists.{comes, first_or, list_at, in_list, map_get}
use Rattle.valid_loads.proofs.Names.{declared_by, names_flat, place_there}
use Rattle.valid_loads.proofs.Rules.{Kept, declared}
use Rattle.valid_loads.proofs.Rows.{LineOf, line_is, load_count}
use Rattle.valid_loads.proofs.Targets.{number_there, number_within}

-- ---- fuel

fuel_one : (f : PlanLine) (i n : ℕ) → slice_get (fuel_in f) i ≡ Some n → f ≡ plan.Fuel n
fuel_one (plan.Fuel n) zero m e = cc
fuel_one (plan.Fuel n) (suc i) m e = absurd cc
fuel_one (plan.Load name domain) i n e = absurd cc
fuel_one (plan.Bind load import target) i n e = absurd cc
fuel_one (plan.Shadow name load restarts) i n e = absurd cc
fuel_one (plan.Device load blocks) i n e = absurd cc
fuel_one (plan.Serial load) i n e = absurd cc
fuel_one (plan.Order clients) i n e = absurd cc

fuel_line : (tables : Tables) (b : Bundle) → Kept tables b → (n : ℕ) → LineOf b (plan.Fuel n) → (1 ≤ n) × (n ≤ 1000000)
fuel_line tables b h n line = (
  elim (cases_lt n 1) [
    | inl less ↦ absurd (h.plan line.number 46 (inr (inr (inr (inr (inr (inr (refl, inr (inr (inr (inr (inr (inl (record { fuel = n; line = record { place = line.place; here = line.here }; outside = inl less }))))))))))))))
    | inr enough ↦ enough
  ],
  elim (cases_lt 1000000 n) [
    | inl more ↦ absurd (h.plan line.number 46 (inr (inr (inr (inr (inr (inr (refl, inr (inr (inr (inr (inr (inl (record { fuel = n; line = record { place = line.place; here = line.here }; outside = inr more }))))))))))))))
    | inr within ↦ within
  ],
)

pub fuel : (tables : Tables) (b : Bundle) → Kept tables b → (1 ≤ fuel_of b) × (fuel_of b ≤ 1000000)
fuel tables b h = elim (first_or (flat_map (λ (l : Numbered PlanLine). fuel_in l.form) b.plan.lines) 10000) [
  | inl none ↦ (omega (arith, none), omega (arith, none))
  | inr one ↦
      let c = comes (λ (l : Numbered PlanLine). fuel_in l.form) b.plan.lines 0 one.0 one.1 in
      let r = fuel_line tables b h one.0 (line_is b c.place c.item (plan.Fuel one.0) c.here (fuel_one c.item.form c.inner one.0 c.there)) in
      (omega (arith, one.2, r.0), omega (arith, one.2, r.1))
]

-- ---- the device

device_one : (b : Bundle) (f : PlanLine) (i n : ℕ) → slice_get (device_in b f) i ≡ Some n → (load : List ℕ) × (blocks : ℕ) × (f ≡ plan.Device load blocks) × (load_number b load ≡ n)
device_one b (plan.Device load blocks) zero n e = (load, blocks, refl, cc)
device_one b (plan.Device load blocks) (suc i) n e = absurd cc
device_one b (plan.Fuel m) i n e = absurd cc
device_one b (plan.Load name domain) i n e = absurd cc
device_one b (plan.Bind load import target) i n e = absurd cc
device_one b (plan.Shadow name load restarts) i n e = absurd cc
device_one b (plan.Serial load) i n e = absurd cc
device_one b (plan.Order clients) i n e = absurd cc

pub device : (tables : Tables) (b : Bundle) → Kept tables b → device_of b ≤ length (loads_of b)
device tables b h = elim (first_or (flat_map (λ (l : Numbered PlanLine). device_in b l.form) b.plan.lines) 0) [
  | inl none ↦ omega (arith, none)
  | inr one ↦
      let c = comes (λ (l : Numbered PlanLine). device_in b l.form) b.plan.lines 0 one.0 one.1 in
      let d = device_one b c.item.form c.inner one.0 c.there in
      let line = line_is b c.place c.item (plan.Device d.0 d.1) c.here d.2 in
      let p = declared_by b.plan.lines load_used (load_names b) (λ n u. declared tables b h n (inr (inr (inr (inr (inl u)))))) line.place _ line.here 0 d.0 refl in
      omega (arith, one.2, d.3, number_there b d.0 p.0 p.1, number_within b d.0 p.0 p.1, load_count b)
]

blocks_one : (f : PlanLine) (i n : ℕ) → slice_get (blocks_in f) i ≡ Some n → (load : List ℕ) × (f ≡ plan.Device load n)
blocks_one (plan.Device load blocks) zero n e = (load, cc)
blocks_one (plan.Device load blocks) (suc i) n e = absurd cc
blocks_one (plan.Fuel m) i n e = absurd cc
blocks_one (plan.Load name domain) i n e = absurd cc
blocks_one (plan.Bind load import target) i n e = absurd cc
blocks_one (plan.Shadow name load restarts) i n e = absurd cc
blocks_one (plan.Serial load) i n e = absurd cc
blocks_one (plan.Order clients) i n e = absurd cc

pub blocks : (tables : Tables) (b : Bundle) → Kept tables b → blocks_of b ≤ 4096
blocks tables b h = elim (first_or (flat_map (λ (l : Numbered PlanLine). blocks_in l.form) b.plan.lines) 0) [
  | inl none ↦ omega (arith, none)
  | inr one ↦
      let c = comes (λ (l : Numbered PlanLine). blocks_in l.form) b.plan.lines 0 one.0 one.1 in
      let d = blocks_one c.item.form c.inner one.0 c.there in
      let line = line_is b c.place c.item (plan.Device d.0 one.0) c.here d.1 in
      elim (cases_lt 4096 one.0) [
        | inl more ↦ absurd (h.plan line.number 46 (inr (inr (inr (inr (inr (inr (refl, inr (inr (inr (inr (inr (inr (record { load = d.0; blocks = one.0; line = record { place = line.place; here = line.here }; outside = inr more }))))))))))))))
        | inr within ↦ omega (arith, one.2, within)
      ]
]

-- ---- clients, and their order

script_step : (f : ClientLine) (commands : ClientLines) (others : List ClientLines) (names : List (List ℕ)) → length names ≡ length others → length (client_given f ++ names) ≡ length (script_before f commands others)
script_step (client.Client name) commands others names e = omega (arith, e)
script_step f commands others names e = e

script_count : (lines : ClientLines) → length (flat_map (λ l. client_given l.form) lines) ≡ length (scripts_of lines)
script_count [] = refl
script_count (l ∷ ls) = script_step l.form (commands_at ls) (scripts_of ls) (flat_map (λ (l : Numbered ClientLine). client_given l.form) ls) (script_count ls)

row_count : (tables : Tables) (b : Bundle) (names : List (List ℕ)) (scripts : List ClientLines) → length names ≡ length scripts → length (client_rows tables b names scripts) ≡ length names
row_count tables b [] [] e = refl
row_count tables b [] (s ∷ scripts) e = refl
row_count tables b (n ∷ names) [] e = absurd (omega (arith, e))
row_count tables b (n ∷ names) (s ∷ scripts) e = omega (arith, row_count tables b names scripts (omega (arith, e)))

-- there are as many names of clients as clients, and as scripts
pub client_scripts : (b : Bundle) → length (client_names b) ≡ length (scripts_of b.clients.lines)
client_scripts b = ap (λ (ns : List (List ℕ)). length ns) (names_flat client_given b.clients.lines) ∙ script_count b.clients.lines

pub client_count : (tables : Tables) (b : Bundle) → length (clients_of tables b) ≡ length (client_names b)
client_count tables b = row_count tables b (client_names b) (scripts_of b.clients.lines) (client_scripts b)

order_one : (b : Bundle) (f : PlanLine) (i n : ℕ) → slice_get (order_in b f) i ≡ Some n → (name : List ℕ) × (slice_get (client_used f) i ≡ Some name) × (number_in name (client_names b) ≡ n)
order_one b (plan.Order clients) i n e = map_get (λ (name : List ℕ). number_in name (client_names b)) clients i n e
order_one b (plan.Fuel m) i n e = absurd cc
order_one b (plan.Device load blocks) i n e = absurd cc
order_one b (plan.Load name domain) i n e = absurd cc
order_one b (plan.Bind load import target) i n e = absurd cc
order_one b (plan.Shadow name load restarts) i n e = absurd cc
order_one b (plan.Serial load) i n e = absurd cc

pub order : (tables : Tables) (b : Bundle) → Kept tables b → (k x : ℕ) → slice_get (order_of b) k ≡ Some x → (0 < x) × (x ≤ length (clients_of tables b))
order tables b h k x e =
    let c = comes (λ (l : Numbered PlanLine). order_in b l.form) b.plan.lines k x e in
    let d = order_one b c.item.form c.inner x c.there in
    let p = declared_by b.plan.lines client_used (client_names b) (λ n u. declared tables b h n (inr (inr (inr (inr (inr (inr (inl u)))))))) c.place c.item c.here c.inner d.0 d.1 in
    let number : number_in d.0 (client_names b) ≡ suc p.0 = ap counted p.1 in
    let within = in_list (client_names b) p.0 d.0 (place_there d.0 (client_names b) p.0 p.1) in
    (omega (arith, number, d.2), omega (arith, number, d.2, within, client_count tables b))

-- ---- counts

pub few : (most : ℕ) (gs : List Given) → ((n : ℕ) → GoesOver most gs n → ⊥) → length gs ≤ most
few most gs none = elim (cases_lt most (length gs)) [
  | inl more ↦ absurd (let g = list_at gs most more in none g.0.line (record { place = most; over = omega arith; one = g.0; here = g.1; line = refl }))
  | inr within ↦ within
]

pub few_loads : (tables : Tables) (b : Bundle) → Kept tables b → length (loads_of b) ≤ 64
few_loads tables b h =
    let gs = given_by load_given b.plan.lines in
    omega (arith, few 64 gs (λ n over. h.plan n 46 (inr (inr (inr (inr (inr (inr (refl, inr (inl over))))))))), load_count b, length-map gs (λ (g : Given). g.name))

pub few_clients : (tables : Tables) (b : Bundle) → Kept tables b → length (clients_of tables b) ≤ 16
few_clients tables b h =
    let gs = given_by client_given b.clients.lines in
    omega (arith, few 16 gs (λ n over. h.plan n 46 (inr (inr (inr (inr (inr (inr (refl, inl over)))))))), client_count tables b, length-map gs (λ (g : Given). g.name))
