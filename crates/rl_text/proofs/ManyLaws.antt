-- Parts with a comma before each, as a loop reads them.
use Rattle.std.proofs.Common.{◌≡◌, ℕ, zero, suc, ◌<◌, ◌≤◌, ◌⊎◌, inl, inr, Bool, true, false, List, [], ◌∷◌, ◌++◌, length, Option, None, Some, Result, Ok, Err, MatchBool, OnOk, refl, sym, ap, subst, ◌∙◌, append_assoc, append-nil, length-append, arith}
use Rattle.rl_defs.specs.declared.lexeme.Mark.TheVariants as m
use Rattle.rl_defs.specs.Tokens.{Token, Sign}
use Rattle.rl_defs.specs.IdlForms.{spell_more}
use Rattle.rl_text.specs.declared.cursor.Stop.{Stop}
use Rattle.rl_text.specs.declared.cursor.Stop.TheVariants.{NoForm, Memory}
use Rattle.rl_text.specs.Reading.{Reader, Gives, ◌>>=◌, either, mark_at}
use Rattle.rl_text.specs.Many.{put_front, many_at, all_at}
use Rattle.rl_text.proofs.PartLaws.{Part, part, both_parts, bind_some, mark_takes, mark_again, Takes, Again}

-- what was read before, and what is still read
abbrev pub with_front : {A : Type 0} → List A → Option (Part (List A)) → Option (Part (List A))
with_front front None = None
with_front front (Some x) = Some (part (front ++ x.0) x.1)

-- front was read of the tokens, and left is to be read
pub record Progress {A : Type 0} (item : Reader A) (ts : List Token) (front : List A) (left : List Token) : Type 0 where
  pub fuel : ℕ
  pub enough : length left ≤ fuel
  pub so_far : with_front front (many_at item fuel left) ≡ all_at item ts

with_none : {A : Type 0} (r : Option (Part (List A))) → with_front [] r ≡ r
with_none None = refl
with_none (Some x) = refl

pub Progress-start : {A : Type 0} (item : Reader A) (ts : List Token) → Progress item ts [] ts
Progress-start item ts = record { fuel = length ts; enough = omega arith; so_far = with_none (many_at item (length ts) ts) }

regroup : {A : Type 0} (front : List A) (a : A) (read : Option (Part (List A))) → with_front front (put_front a read) ≡ with_front (front ++ a ∷ []) read
regroup front a None = refl
regroup {A} front a (Some x) = ap (λ (all : List A). Some (part all x.1)) (sym (append_assoc front (a ∷ []) x.0))

-- an item takes no tokens back
abbrev pub Shortens : {A : Type 0} → Reader A → Type 0
Shortens {A} item = (ts : List Token) (a : A) (rest : List Token) → item ts ≡ Some (part a rest) → length rest ≤ length ts

pub shortens : {A : Type 0} (spell : A → List Token) (Valid : A → Type 0) (item : Reader A) → Takes spell Valid item → Shortens item
shortens spell Valid item takes ts a rest e = let p = takes ts a rest e in omega (arith, ap length p.0, length-append (spell a) rest)

comma_shortens : (ts rest : List Token) → mark_at m.Comma ts ≡ Some rest → length rest < length ts
comma_shortens ts rest e = omega (arith, ap length (mark_takes m.Comma ts rest e))

next_step : {A : Type 0} (item : Reader A) (ts : List Token) (front : List A) (left behind rest : List Token) (a : A) (fuel : ℕ) → length left ≤ fuel → with_front front (many_at item fuel left) ≡ all_at item ts → mark_at m.Comma left ≡ Some behind → item behind ≡ Some (part a rest) → length rest ≤ length behind → Progress item ts (front ++ a ∷ []) rest
unfolding many_at
next_step item ts front left behind rest a zero enough so_far comma read fewer = absurd (omega (arith, comma_shortens left behind comma))
next_step item ts front left behind rest a (suc n) enough so_far comma read fewer = record {
  fuel = n;
  enough = omega (arith, comma_shortens left behind comma, fewer);
  so_far = sym (rw (comma, read) (regroup front a (many_at item n rest))) ∙ so_far;
}

pub is_true : (P Q : Type 0) (b : Bool) → b ≡ true → MatchBool b P Q → P
is_true P Q true e h = h
is_true P Q false e h = absurd cc

pub is_false : (P Q : Type 0) (b : Bool) → b ≡ false → MatchBool b P Q → Q
is_false P Q true e h = absurd cc
is_false P Q false e h = h

pub goes_on : {A : Type 0} (item : Reader A) (ts : List Token) (front : List A) (left behind rest : List Token) (a : A) → Progress item ts front left → mark_at m.Comma left ≡ Some behind → item behind ≡ Some (part a rest) → length rest ≤ length behind → Progress item ts (front ++ a ∷ []) rest
goes_on item ts front left behind rest a p comma read fewer = next_step item ts front left behind rest a p.fuel p.enough p.so_far comma read fewer

no_item : {A : Type 0} (item : Reader A) (ts : List Token) (front : List A) (left behind : List Token) (fuel : ℕ) → length left ≤ fuel → with_front front (many_at item fuel left) ≡ all_at item ts → mark_at m.Comma left ≡ Some behind → item behind ≡ None → all_at item ts ≡ None
unfolding many_at
no_item item ts front left behind zero enough so_far comma read = absurd (omega (arith, comma_shortens left behind comma))
no_item item ts front left behind (suc n) enough so_far comma read = sym so_far ∙ rw (comma, read) refl

pub fails : {A X Y : Type 0} (item : Reader A) (ts : List Token) (front : List A) (left behind new last : List Token) (e : Stop) (see : X → A) (view : Y → List A) → Progress item ts front left → mark_at m.Comma left ≡ Some behind → Gives see (Err e) new (item behind) → Gives view (Err e) last (all_at item ts)
fails item ts front left behind new last NoForm see view p comma read = no_item item ts front left behind p.fuel p.enough p.so_far comma read
fails item ts front left behind new last Memory see view p comma read = tt

no_more : {A : Type 0} (item : Reader A) (ts : List Token) (front : List A) (left : List Token) (fuel : ℕ) → with_front front (many_at item fuel left) ≡ all_at item ts → mark_at m.Comma left ≡ None → all_at item ts ≡ Some (part front left)
unfolding many_at
no_more {A} item ts front left zero so_far none = sym so_far ∙ ap (λ (all : List A). Some (part all left)) (append-nil front)
no_more {A} item ts front left (suc n) so_far none = sym so_far ∙ rw none (ap (λ (all : List A). Some (part all left)) (append-nil front))

pub stops : {A : Type 0} (item : Reader A) (ts : List Token) (front : List A) (left new : List Token) → Progress item ts front left → mark_at m.Comma left ≡ None → new ≡ left → all_at item ts ≡ Some (part front new)
stops {A} item ts front left new p none same = no_more item ts front left p.fuel p.so_far none ∙ ap (λ (t : List Token). Some (part front t)) (sym same)

-- ---- laws of lists of parts

abbrev pub AllValid : {A : Type 0} → (A → Type 0) → List A → Type 0
AllValid Valid [] = Unit {0}
AllValid Valid (a ∷ more) = Valid a × AllValid Valid more

front_some : {A : Type 0} (a : A) (r : Option (Part (List A))) (all : List A) (rest : List Token) → put_front a r ≡ Some (part all rest) → (more : List A) × (r ≡ Some (part more rest)) × (a ∷ more ≡ all)
front_some a None all rest e = absurd cc
front_some {A} a (Some x) all rest e = let q = both_parts (part (a ∷ x.0) x.1) (part all rest) e in (x.0, ap (λ (t : List Token). Some (part x.0 t)) q.1, q.0)

comma_cases : {B : Type 0} (r : Option (List Token)) (f : List Token → Option B) (other : Option B) (y : B) → either r f other ≡ Some y → ((x : List Token) × (r ≡ Some x) × (f x ≡ Some y)) ⊎ ((r ≡ None) × (other ≡ Some y))
comma_cases None f other y e = inr (refl, e)
comma_cases (Some x) f other y e = inl (x, refl, e)

pub many_takes : {A : Type 0} (spell : A → List Token) (Valid : A → Type 0) (item : Reader A) → Takes spell Valid item → (n : ℕ) (ts : List Token) (all : List A) (rest : List Token) → many_at item n ts ≡ Some (part all rest) → (ts ≡ spell_more spell all ++ rest) × AllValid Valid all
unfolding many_at
many_takes {A} spell Valid item takes zero ts all rest e =
    let q = both_parts (part [] ts) (part all rest) e in
    (q.1 ∙ ap (λ (x : List A). spell_more spell x ++ rest) q.0, subst (λ (x : List A). AllValid Valid x) q.0 tt)
many_takes {A} spell Valid item takes (suc n) ts all rest e =
    elim (comma_cases (mark_at m.Comma ts) (λ behind. item behind >>= λ a. put_front a.0 (many_at item n a.1)) (Some (part [] ts)) (part all rest) e) [
      | inl c ↦
          let b = bind_some (item c.0) (λ a. put_front a.0 (many_at item n a.1)) (part all rest) c.2 in
          let p = takes c.0 b.0.0 b.0.1 b.1 in
          let f = front_some b.0.0 (many_at item n b.0.1) all rest b.2 in
          let more = many_takes spell Valid item takes n b.0.1 f.0 rest f.1 in (
            mark_takes m.Comma ts c.0 c.1 ∙ ap (λ (t : List Token). Sign m.Comma ∷ t) (p.0 ∙ ap (λ (t : List Token). spell b.0.0 ++ t) more.0 ∙ sym (append_assoc (spell b.0.0) (spell_more spell f.0) rest)) ∙ ap (λ (x : List A). spell_more spell x ++ rest) f.2,
            subst (λ (x : List A). AllValid Valid x) f.2 (p.1, more.1),
          )
      | inr c ↦
          let q = both_parts (part [] ts) (part all rest) c.1 in
          (q.1 ∙ ap (λ (x : List A). spell_more spell x ++ rest) q.0, subst (λ (x : List A). AllValid Valid x) q.0 tt)
    ]

pub many_again : {A : Type 0} (spell : A → List Token) (Valid : A → Type 0) (item : Reader A) → Again spell Valid item → (all : List A) (rest : List Token) (n : ℕ) → length (spell_more spell all ++ rest) ≤ n → AllValid Valid all → mark_at m.Comma rest ≡ None → many_at item n (spell_more spell all ++ rest) ≡ Some (part all rest)
unfolding many_at
many_again spell Valid item again [] rest zero le valid none = refl
many_again spell Valid item again [] rest (suc n) le valid none = rw none refl
many_again spell Valid item again (a ∷ more) rest zero le valid none = absurd (omega arith)
many_again {A} spell Valid item again (a ∷ more) rest (suc n) le valid none =
    let behind : List Token = spell_more spell more ++ rest in
    let parts : spell a ++ spell_more spell more ++ rest ≡ spell a ++ behind = append_assoc (spell a) (spell_more spell more) rest in
    let comma : mark_at m.Comma (spell_more spell (a ∷ more) ++ rest) ≡ Some (spell a ++ behind) = ap (λ (t : List Token). mark_at m.Comma (Sign m.Comma ∷ t)) parts ∙ mark_again m.Comma (spell a ++ behind) in
    let enough : length behind ≤ n = omega (arith, ap length parts, length-append (spell a) behind, le) in
    rw (comma, again a behind valid.0, many_again spell Valid item again more rest n enough valid.1 none) refl

pub all_takes : {A : Type 0} (spell : A → List Token) (Valid : A → Type 0) (item : Reader A) → Takes spell Valid item → Takes (spell_more spell) (AllValid Valid) (all_at item)
all_takes spell Valid item takes ts all rest e = many_takes spell Valid item takes (length ts) ts all rest e

pub all_again : {A : Type 0} (spell : A → List Token) (Valid : A → Type 0) (item : Reader A) → Again spell Valid item → (all : List A) (rest : List Token) → AllValid Valid all → mark_at m.Comma rest ≡ None → all_at item (spell_more spell all ++ rest) ≡ Some (part all rest)
all_again spell Valid item again all rest valid none = many_again spell Valid item again all rest _ (omega arith) valid none

pub falls : (left behind rest : List Token) → mark_at m.Comma left ≡ Some behind → length rest ≤ length behind → length rest < length left
falls left behind rest comma fewer = omega (arith, comma_shortens left behind comma, fewer)

-- an item that was read leaves no more tokens than there were
pub leaves_fewer : {A : Type 0} (item : Reader A) → Shortens item → (r : Result A Stop) (old new : List Token) → Gives (λ a. a) r new (item old) → OnOk r (length new ≤ length old)
leaves_fewer item shorter (Ok a) old new e = shorter old a new e
leaves_fewer item shorter (Err NoForm) old new e = tt
leaves_fewer item shorter (Err Memory) old new e = tt
