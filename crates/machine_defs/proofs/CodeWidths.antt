-- There are as many kinds as registers, before each line.
use Rattle.std.proofs.Common.{◌≡◌, refl, ◌∙◌, ℕ, zero, suc, ◌+◌, Bool, true, false, List, [], ◌∷◌, length, Option, Some, None, slice_get}
use Rattle.std.specs.Prelude.{if◌then◌else◌, slice_set}
use Rattle.std.proofs.Math.ListN.{length-set}
use Rattle.rl_defs.specs.declared.bundle.Numbered.{Numbered}
use Rattle.rl_defs.specs.declared.code.Register.{Register}
use Rattle.rl_defs.specs.declared.code.RegKind.TheVariants as held
use Rattle.rl_defs.specs.declared.code.DomainLine.{DomainLine}
use Rattle.rl_defs.specs.declared.code.DomainLine.TheVariants as line
use Rattle.rl_defs.specs.declared.tables.Kind.{Kind}
use Rattle.rl_defs.specs.DomainValue.{Domain}
use Rattle.rl_defs.specs.CodeNames.{params_of, method_named, domain_trait}
use Rattle.rl_defs.specs.CodeKinds.{Kinds, no_kinds, kind_in, with_kind, is_own, leave, leave_all, moved, left, writes, listed, put_from, as_register, after_line, after_some, kinds_at}
use Rattle.machine_defs.proofs.CodeRegisters.{length-put_all, length-no_kinds}

length-leave : (kinds : Kinds) (r : Register) (own : Bool) → length (if own then with_kind kinds r held.Empty else kinds) ≡ length kinds
length-leave kinds r true = length-set kinds r.number held.Empty
length-leave kinds r false = refl

pub length-leave_all : (rs : List Register) (kinds : Kinds) → length (leave_all rs kinds) ≡ length kinds
length-leave_all [] kinds = refl
length-leave_all (r ∷ rs) kinds = length-leave_all rs (leave kinds r) ∙ length-leave kinds r (is_own (kind_in kinds r))

pub length-put_from : (n : ℕ) (ks : List Kind) (kinds : Kinds) → length (put_from n ks kinds) ≡ length kinds
length-put_from n [] kinds = refl
length-put_from n (k ∷ ks) kinds = length-put_from (n + 1) ks (slice_set kinds n (as_register k)) ∙ length-set kinds n (as_register k)

behind_form : (d : Domain) (kinds : Kinds) (form : DomainLine) → length kinds ≡ 32 → length (after_line d kinds form) ≡ 32
behind_form d kinds (line.Function name) wide = length-put_from 0 (params_of (method_named d.tables (domain_trait d) name)) no_kinds ∙ length-no_kinds
behind_form d kinds (line.Head label items) wide = length-put_all (listed d.tables items) no_kinds ∙ length-no_kinds
behind_form d kinds (line.Code i) wide = length-put_all (writes d kinds i) (left kinds i) ∙ (length-leave_all (moved i) kinds ∙ wide)
behind_form d kinds (line.Domain name has) wide = wide
behind_form d kinds (line.Words k) wide = wide
behind_form d kinds (line.Slot name ty) wide = wide
behind_form d kinds (line.Import name has) wide = wide
behind_form d kinds (line.Native body) wide = wide
behind_form d kinds line.Close wide = wide

behind_some : (d : Domain) (kinds : Kinds) (l : Option (Numbered DomainLine)) → length kinds ≡ 32 → length (after_some d kinds l) ≡ 32
behind_some d kinds None wide = wide
behind_some d kinds (Some l) wide = behind_form d kinds l.form wide

pub length-kinds_at : (d : Domain) (n : ℕ) → length (kinds_at d n) ≡ 32
length-kinds_at d zero = length-no_kinds
length-kinds_at d (suc n) = behind_some d (kinds_at d n) (slice_get d.lines n) (length-kinds_at d n)
