-- How a call begins.
use Rattle.std.proofs.Common.{◌≡◌, sym, ◌∙◌, ap, subst, ℕ, ◌≤◌, false, List, length, map, Some, arith}
use Rattle.std.proofs.lemmas.List.{length-map}
use Rattle.machine_defs.specs.declared.values.Arg.{Arg}
use Rattle.rl_defs.specs.DomainValue.{Domain}
use Rattle.rl_defs.specs.Domains.{is_native, body_of_function}
use Rattle.rl_defs.specs.CodeNames.{domain_trait}
use Rattle.machine_defs.specs.Arguments.{value_of, entry_registers}
use Rattle.rl_defs.specs.Registers.{Registers}
use Rattle.rl_defs.specs.CodeRules.{KeepsRules}
use Rattle.rl_defs.specs.Registers.{Typing}
use Rattle.machine_defs.specs.CodeFits.{FitsStand}
use Rattle.rl_defs.specs.CodeNames.{entry_of, entry_at}
use Rattle.machine_defs.specs.CodeLaws.{FitsArguments}
use Rattle.rl_defs.proofs.TableSizes.{small_method}
use Rattle.machine_defs.proofs.CodeEntries.{as_many, entries_fit}

-- a call has few arguments
pub few_given : (d : Domain) (types : Typing) (m : ℕ) (args : List Arg) → KeepsRules d → FitsArguments types d m args → length args ≤ 32
few_given d types m args keeps given =
    let params = (small_method d.tables (domain_trait d) m given.method keeps.small given.row).params in
    let count : length given.method.params ≡ length args = as_many types given.method.params (map value_of args) given.values ∙ length-map args value_of in
    omega arith

pub begins_fitting : (d : Domain) (types : Typing) (m at : ℕ) (args : List Arg) (regs : Registers) → KeepsRules d → is_native d.lines ≡ false → FitsArguments types d m args → ((place : ℕ) → entry_at d m ≡ Some place → at ≡ place) → regs ≡ entry_registers args → FitsStand types d (record { at = at; regs = regs })
begins_fitting d types m at args regs keeps native given begins is =
    let place = body_of_function d.lines given.method.name in
    let e : entry_at d m ≡ Some place = ap (entry_of d) given.row in
    let fits = entries_fit d types m place args keeps native given e in
    subst (λ r. FitsStand types d (record { at = at; regs = r })) (sym is)
    (subst (λ n. FitsStand types d (record { at = n; regs = entry_registers args })) (sym (begins place e)) fits)
