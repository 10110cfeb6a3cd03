-- Lines that name nothing, move no object and go to no label.
use Rattle.std.proofs.Common.{◌≡◌, ℕ, true, List, Some, None, refl, subst}
use Rattle.std.specs.Prelude.{slice_get}
use Rattle.rl_defs.specs.declared.bundle.Numbered.{Numbered}
use Rattle.rl_defs.specs.declared.code.Register.{Register}
use Rattle.rl_defs.specs.declared.code.Instr.{Instr}
use Rattle.rl_defs.specs.declared.code.Instr.TheVariants as instr
use Rattle.rl_defs.specs.declared.code.DomainLine.{DomainLine}
use Rattle.rl_defs.specs.declared.code.DomainLine.TheVariants as line
use Rattle.rl_defs.specs.declared.checked.Way.{Way}
use Rattle.rl_defs.specs.DomainValue.{Domain}
use Rattle.rl_defs.specs.CodeKinds.{Kinds, kinds_at}
use Rattle.rl_defs.specs.CodeNames.{label_of, place_of_label}
use Rattle.rl_defs.specs.LineRows.{number_named, type_named, Leads}
use Rattle.rl_defs.specs.Checked.{IsWithin, IsRow, emptied_on}
use Rattle.domain_checker.specs.Lowest.{lowest, from_32}
use Rattle.domain_checker.specs.Plain.{is_plain}
use Rattle.domain_checker.proofs.RowLaws.{one_form}

-- they keep the rules from 32 on
pub plain_keeps : (form : DomainLine) → is_plain form ≡ true → (d : Domain) (n : ℕ) (kinds : Kinds) → lowest (from_32 d n kinds form) ≡ None
plain_keeps (line.Domain name has) e d at kinds = absurd cc
plain_keeps (line.Words k) e d at kinds = absurd cc
plain_keeps (line.Slot name ty) e d at kinds = absurd cc
plain_keeps (line.Import name has) e d at kinds = absurd cc
plain_keeps (line.Native body) e d at kinds = absurd cc
plain_keeps (line.Function name) e d at kinds = absurd cc
plain_keeps (line.Head label items) e d at kinds = absurd cc
plain_keeps line.Close e d at kinds = absurd cc
plain_keeps (line.Code (instr.Const a n)) e d at kinds = refl
plain_keeps (line.Code (instr.Copy a b)) e d at kinds = refl
plain_keeps (line.Code (instr.Math o a b c)) e d at kinds = refl
plain_keeps (line.Code (instr.Jmp label)) e d at kinds = absurd cc
plain_keeps (line.Code (instr.Jz a label)) e d at kinds = absurd cc
plain_keeps (line.Code (instr.Move a b)) e d at kinds = absurd cc
plain_keeps (line.Code (instr.Get a o i)) e d at kinds = refl
plain_keeps (line.Code (instr.Wget a i)) e d at kinds = absurd cc
plain_keeps (line.Code (instr.Has a slot)) e d at kinds = absurd cc
plain_keeps (line.Code (instr.Cap a import)) e d at kinds = absurd cc
plain_keeps (line.Code (instr.DevSize a)) e d at kinds = absurd cc
plain_keeps (line.Code (instr.New a ty)) e d at kinds = absurd cc
plain_keeps (line.Code (instr.Drop a)) e d at kinds = absurd cc
plain_keeps (line.Code (instr.Set o i v)) e d at kinds = absurd cc
plain_keeps (line.Code (instr.Wput i v)) e d at kinds = absurd cc
plain_keeps (line.Code (instr.Take a slot)) e d at kinds = absurd cc
plain_keeps (line.Code (instr.Put slot a)) e d at kinds = absurd cc
plain_keeps (line.Code (instr.DevGet o n)) e d at kinds = absurd cc
plain_keeps (line.Code (instr.DevPut n o)) e d at kinds = absurd cc
plain_keeps (line.Code (instr.Hang o place v)) e d at kinds = absurd cc
plain_keeps (line.Code (instr.Unhang a o place)) e d at kinds = absurd cc
plain_keeps (line.Code (instr.Call target method args results code label)) e d at kinds = absurd cc
plain_keeps (line.Code (instr.Ret results)) e d at kinds = absurd cc
plain_keeps (line.Code instr.Trap) e d at kinds = absurd cc

-- what a plain instruction names
record NamesNothing (d : Domain) (n : ℕ) (kinds : Kinds) (i : Instr) : Type 0 where
  number : number_named d n kinds i ≡ None
  type : type_named d kinds i ≡ None
  label : label_of i ≡ None

plain_names : (i : Instr) → is_plain (line.Code i) ≡ true → (d : Domain) (n : ℕ) (kinds : Kinds) → NamesNothing d n kinds i
plain_names (instr.Const a n) e d at kinds = record { number = refl; type = refl; label = refl }
plain_names (instr.Copy a b) e d at kinds = record { number = refl; type = refl; label = refl }
plain_names (instr.Math o a b c) e d at kinds = record { number = refl; type = refl; label = refl }
plain_names (instr.Jmp label) e d at kinds = absurd cc
plain_names (instr.Jz a label) e d at kinds = absurd cc
plain_names (instr.Move a b) e d at kinds = absurd cc
plain_names (instr.Get a o i) e d at kinds = record { number = refl; type = refl; label = refl }
plain_names (instr.Wget a i) e d at kinds = absurd cc
plain_names (instr.Has a slot) e d at kinds = absurd cc
plain_names (instr.Cap a import) e d at kinds = absurd cc
plain_names (instr.DevSize a) e d at kinds = absurd cc
plain_names (instr.New a ty) e d at kinds = absurd cc
plain_names (instr.Drop a) e d at kinds = absurd cc
plain_names (instr.Set o i v) e d at kinds = absurd cc
plain_names (instr.Wput i v) e d at kinds = absurd cc
plain_names (instr.Take a slot) e d at kinds = absurd cc
plain_names (instr.Put slot a) e d at kinds = absurd cc
plain_names (instr.DevGet o n) e d at kinds = absurd cc
plain_names (instr.DevPut n o) e d at kinds = absurd cc
plain_names (instr.Hang o place v) e d at kinds = absurd cc
plain_names (instr.Unhang a o place) e d at kinds = absurd cc
plain_names (instr.Call target method args results code label) e d at kinds = absurd cc
plain_names (instr.Ret results) e d at kinds = absurd cc
plain_names instr.Trap e d at kinds = absurd cc

-- their rows name nothing
pub row_plain : (d : Domain) (n : ℕ) (l : Numbered DomainLine) (kinds : Kinds) (pool : List Register) (here : Way) → slice_get d.lines n ≡ Some l → is_plain l.form ≡ true → kinds ≡ kinds_at d n → IsWithin pool here → Leads d kinds n here.line (emptied_on pool here) → IsRow d pool n (record { number = 0; of = 0; label = 0; here = here; jump = here })
row_plain d n l kinds pool here at plain known within leads = record {
  here_within = within;
  jump_within = within;
  here = subst (λ ks. Leads d ks n here.line (emptied_on pool here)) known leads;
  names = λ k j e. record {
    named = λ m f. absurd (let none = (nothing k j e).number in cc);
    typed = λ m f. absurd (let none = (nothing k j e).type in cc);
    place = λ p f. absurd (let none = no_place k j e in cc);
  };
  jump = λ k j e p f. absurd (let none = no_place k j e in cc);
} where
  nothing : (k : ℕ) (j : Instr) → slice_get d.lines n ≡ Some (record { line = k; form = line.Code j }) → NamesNothing d n (kinds_at d n) j
  nothing k j e = plain_names j (subst (λ f. is_plain f ≡ true) (one_form (slice_get d.lines n) None l k (line.Code j) at e) plain) d n (kinds_at d n)

  no_place : (k : ℕ) (j : Instr) → slice_get d.lines n ≡ Some (record { line = k; form = line.Code j }) → place_of_label d n (label_of j) ≡ None
  no_place k j e = rw (nothing k j e).label refl
