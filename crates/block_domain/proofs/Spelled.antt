-- The driver's texts are the canonical spelling of its lines, and so are read as these.
use Rattle.std.proofs.Common.{◌≡◌, ℕ, List, [], ◌∷◌, ◌++◌, refl, ap, ◌∙◌, arith, codes}
use Rattle.std.specs.Fmt.{decimal}
use Rattle.std.proofs.lemmas.Fmt.{decimal_digit, decimal_step}
use Rattle.rl_defs.specs.declared.bundle.Numbered.{Numbered}
use Rattle.rl_defs.specs.declared.tables.Width.TheVariants as width
use Rattle.rl_defs.specs.declared.idl.Base.{Base}
use Rattle.rl_defs.specs.declared.idl.Base.TheVariants as base
use Rattle.rl_defs.specs.declared.idl.IdlLine.{IdlLine}
use Rattle.rl_defs.specs.IdlForms.{IsType}
use Rattle.rl_defs.specs.IdlParts.{interface_part}
use Rattle.rl_defs.specs.Lines.{lines_of}
use Rattle.idl_syntax.specs.IdlCanonical.{write_part}
use Rattle.idl_syntax.specs.Writable as interface
use Rattle.idl_syntax.proofs.IdlLaws.{interface_forms as interface_forms_apart}
use Rattle.idl_syntax.proofs.PartAgain.{part_read_again}
use Rattle.domain_code.proofs.OrderLaws.{ordered_nowhere}
use Rattle.rl_defs.specs.Domains.{Lines}
use Rattle.domain_code.specs.DomainCanonical.{write_lines}
use Rattle.domain_code.specs.Writable.{CanBeRead, IsOneDomain}
use Rattle.domain_code.proofs.WriteAgain.{domain_again}
use Rattle.rl_text.specs.Canonical.{render, render_behind, has_gap}
use Rattle.rl_text.specs.Writable.{renumbered}
use Rattle.block_domain.specs.Driver.{driver_forms, interface_forms}
use Rattle.block_domain.specs.Texts.{IsDriver, IsInterface}
use Rattle.block_domain.proofs.Lines.{numbered_by}

abbrev pub driver_lines : Lines
driver_lines = numbered_by [] driver_forms

one : IsOneDomain driver_lines
one = record { once = (refl, (refl, (refl, (refl, (refl, (refl, (refl, (refl, (refl, (refl, (refl, (refl, (refl, (refl, (refl, tt))))))))))))))); order = refl }

can_be_read : CanBeRead 0 driver_lines
unfolding render render_behind has_gap
can_be_read = rw (decimal_digit 0 (omega arith), decimal_digit 1 (omega arith)) (
  ((refl, (refl, (tt, (refl, (tt, tt))))), omega arith),
  (
    ((tt, (refl, (tt, tt))), omega arith),
    (
      ((refl, (refl, tt)), omega arith),
      (
        ((refl, (refl, tt)), omega arith),
        (
          ((tt, tt), omega arith),
          (
            ((tt, (refl, (tt, tt))), omega arith),
            (
              ((refl, (refl, (tt, (refl, tt)))), omega arith),
              (
                ((refl, (refl, (tt, (refl, tt)))), omega arith),
                (
                  ((refl, (refl, tt)), omega arith),
                  (
                    ((tt, tt), omega arith),
                    (
                      ((tt, (refl, (tt, tt))), omega arith),
                      (
                        ((refl, (refl, (tt, (refl, tt)))), omega arith),
                        (
                          ((refl, tt), omega arith),
                          (
                            ((tt, tt), omega arith),
                            (((tt, tt), omega arith), tt),
                          ),
                        ),
                      ),
                    ),
                  ),
                ),
              ),
            ),
          ),
        ),
      ),
    ),
  ),
)

pub driver_read : (text : List ℕ) → text ≡ write_lines 0 driver_lines → IsDriver text
driver_read text is first =
    let r = domain_again driver_lines text is can_be_read one first in
    record { keeps = r.0; domain = record { lines = renumbered first driver_lines }; forms = refl; only = r.1 }

-- the interface
abbrev pub interface_numbered : List IdlLine → List (Numbered IdlLine)
interface_numbered [] = []
interface_numbered (form ∷ forms) = record { line = 0; form = form } ∷ interface_numbered forms

abbrev pub interface_lines : List (Numbered IdlLine)
interface_lines = interface_numbered interface_forms

pub sixty_four : decimal 64 ≡ 54 ∷ 52 ∷ []
sixty_four = decimal_step 64 (omega arith) (omega arith) ∙ ap (λ (xs : List ℕ). xs ++ 52 ∷ []) (decimal_digit 6 (omega arith))

plain : (b : Base) → IsType (record { wraps = []; base = b })
plain b = record { depth = omega arith; wraps = tt }

interface_can_be_read : interface.CanBeRead interface_lines
unfolding render render_behind has_gap
interface_can_be_read = rw sixty_four (
  (tt, (tt, (tt, (refl, (tt, tt)))), omega arith),
  (
    (record { depth = omega arith; wraps = ((omega arith, omega arith), tt, tt) }, (tt, (refl, (tt, (tt, (tt, (tt, (omega arith, (tt, (tt, tt))))))))), omega arith),
    (
      (tt, (tt, tt), omega arith),
      (
        (tt, (tt, (tt, (refl, (tt, tt)))), omega arith),
        (
          (tt, (tt, (tt, (refl, (tt, tt)))), omega arith),
          (
            ((tt, (plain (base.Num width.W64), tt)), (tt, (refl, (tt, (tt, (tt, (tt, (tt, (tt, (tt, (tt, (tt, (tt, tt)))))))))))), omega arith),
            (
              (tt, (tt, (tt, (refl, (tt, tt)))), omega arith),
              (
                (((plain (base.Num width.W64), tt), (plain (base.RRef (codes "Block")), tt)), (tt, (refl, (tt, (tt, (tt, (tt, (refl, (tt, (tt, (tt, (tt, (tt, (tt, (tt, (tt, (refl, (tt, (tt, (tt, tt))))))))))))))))))), omega arith),
                (
                  (tt, (tt, (tt, (refl, (tt, tt)))), omega arith),
                  (
                    (((plain (base.Num width.W64), (plain (base.LentRRef (codes "Block")), tt)), tt), (tt, (refl, (tt, (tt, (tt, (tt, (refl, (tt, (tt, (tt, (refl, (tt, (tt, (tt, (tt, (refl, (tt, (tt, (tt, (tt, (tt, (tt, (tt, (tt, (tt, tt))))))))))))))))))))))))), omega arith),
                    ((tt, (tt, tt), omega arith), tt),
                  ),
                ),
              ),
            ),
          ),
        ),
      ),
    ),
  ),
)

pub interface_read : (text : List ℕ) → text ≡ write_part interface_lines → IsInterface text
interface_read text is first =
    let stand = part_read_again interface_lines text is interface_can_be_read first in
    record {
      keeps = ordered_nowhere interface_part interface_forms_apart first (lines_of text) (renumbered first interface_lines) stand refl;
      lines = renumbered first interface_lines;
      forms = refl;
      stand = stand;
    }
