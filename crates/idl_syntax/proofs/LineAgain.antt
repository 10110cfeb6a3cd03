-- Lines: what is spelled so is read.
use Rattle.std.proofs.Common.{◌≡◌, Bool, true, false, List, [], ◌∷◌, ◌++◌, None, Some, refl, ap, ◌∙◌, append_assoc}
use Rattle.rl_defs.specs.declared.lexeme.Key.TheVariants as k
use Rattle.rl_defs.specs.declared.lexeme.Mark.TheVariants as m
use Rattle.rl_defs.specs.declared.tables.Width.TheVariants as width
use Rattle.rl_defs.specs.declared.idl.Wrap.{Wrap}
use Rattle.rl_defs.specs.declared.idl.Wrap.TheVariants as wrap
use Rattle.rl_defs.specs.declared.idl.Base.{Base}
use Rattle.rl_defs.specs.declared.idl.Base.TheVariants as base
use Rattle.rl_defs.specs.declared.idl.TypeText.{TypeText}
use Rattle.rl_defs.specs.declared.idl.Param.{Param}
use Rattle.rl_defs.specs.declared.idl.ResultText.{ResultText}
use Rattle.rl_defs.specs.declared.idl.ResultText.TheVariants.{Missing, Plain, Rpc}
use Rattle.rl_defs.specs.declared.idl.IdlLine.{IdlLine}
use Rattle.rl_defs.specs.declared.idl.IdlLine.TheVariants.{Struct, Field, Trait, Idempotent, Method, Close}
use Rattle.rl_defs.specs.Tokens.{Token, Reserved, Sign}
use Rattle.rl_defs.specs.IdlForms.{spell_type, spell_round, spell_more, spell_param, spell_out, spell_result, Choice, spell_line, IsType, AreTypes, AreParams, IsResult, IsForm}
use Rattle.rl_text.specs.Reading.{either, name_at, mark_at, key_at, word_at, end_at}
use Rattle.rl_text.proofs.PartLaws.{part, mark_again, Again}
use Rattle.rl_text.proofs.ManyLaws.{AllValid, all_again}
use Rattle.idl_syntax.specs.Lines.{whole_type_at, param_at, types_at, parts_at, one_at, out_at, result_at, head_at, field_at, attribute_at, receiver_at, method_at, open_at, form_at, line_at}
use Rattle.idl_syntax.proofs.PartTakes.{whole_again, param_again, IsParam}
use Rattle.idl_syntax.proofs.LineTakes.{choice}

types_valid : (l : List TypeText) → AreTypes l → AllValid IsType l
types_valid [] h = tt
types_valid (ty ∷ more) h = (h.0, types_valid more h.1)

params_valid : (l : List Param) → AreParams l → AllValid IsParam l
params_valid [] h = tt
params_valid (p ∷ more) h = (h.0, params_valid more h.1)

-- what a type doesn't begin with
record Begins (ts : List Token) : Type 0 where
  opened : mark_at m.OpenParen ts ≡ None
  closed : mark_at m.CloseParen ts ≡ None
  rpc : key_at k.RpcResult ts ≡ None

round_begins : (ws : List Wrap) (b : Base) (rest : List Token) → Begins (spell_round ws b ++ rest)
unfolding mark_at key_at
round_begins [] (base.Num width.Bool) rest = record { opened = refl; closed = refl; rpc = refl }
round_begins [] (base.Num width.W8) rest = record { opened = refl; closed = refl; rpc = refl }
round_begins [] (base.Num width.W16) rest = record { opened = refl; closed = refl; rpc = refl }
round_begins [] (base.Num width.W32) rest = record { opened = refl; closed = refl; rpc = refl }
round_begins [] (base.Num width.W64) rest = record { opened = refl; closed = refl; rpc = refl }
round_begins [] (base.Struct name) rest = record { opened = refl; closed = refl; rpc = refl }
round_begins [] (base.RRef name) rest = record { opened = refl; closed = refl; rpc = refl }
round_begins [] (base.LentRRef name) rest = record { opened = refl; closed = refl; rpc = refl }
round_begins [] (base.Dyn name) rest = record { opened = refl; closed = refl; rpc = refl }
round_begins [] base.String rest = record { opened = refl; closed = refl; rpc = refl }
round_begins [] base.Function rest = record { opened = refl; closed = refl; rpc = refl }
round_begins (wrap.Array n ∷ ws) b rest = record { opened = refl; closed = refl; rpc = refl }
round_begins (wrap.Box ∷ ws) b rest = record { opened = refl; closed = refl; rpc = refl }
round_begins (wrap.Vec ∷ ws) b rest = record { opened = refl; closed = refl; rpc = refl }
round_begins (wrap.Ref ∷ ws) b rest = record { opened = refl; closed = refl; rpc = refl }
round_begins (wrap.RefMut ∷ ws) b rest = record { opened = refl; closed = refl; rpc = refl }
round_begins (wrap.PointerConst ∷ ws) b rest = record { opened = refl; closed = refl; rpc = refl }
round_begins (wrap.PointerMut ∷ ws) b rest = record { opened = refl; closed = refl; rpc = refl }

no_comma : (rest : List Token) → mark_at m.Comma (Sign m.CloseParen ∷ rest) ≡ None
unfolding mark_at
no_comma rest = refl

types_again : (ty other : TypeText) (more : List TypeText) (rest : List Token) → AreTypes (ty ∷ other ∷ more) → types_at (spell_type ty ++ (spell_more spell_type (other ∷ more) ++ (Sign m.CloseParen ∷ rest))) ≡ Some (part (ty ∷ other ∷ more) rest)
unfolding types_at
types_again ty other more rest h =
    let close : List Token = Sign m.CloseParen ∷ rest in
    let all = all_again spell_type IsType whole_type_at whole_again (other ∷ more) close (types_valid (other ∷ more) h.1) (no_comma rest) in
    rw (whole_again ty (spell_more spell_type (other ∷ more) ++ close) h.0, all, mark_again m.CloseParen rest) refl

out_again : Again spell_out AreTypes out_at
unfolding out_at
out_again [] rest h = rw (mark_again m.OpenParen (Sign m.CloseParen ∷ rest), mark_again m.CloseParen rest) refl
out_again (ty ∷ []) rest h = rw ((round_begins ty.wraps ty.base rest).opened, whole_again ty rest h.0) refl
out_again (ty ∷ other ∷ more) rest h =
    let close : List Token = Sign m.CloseParen ∷ [] in
    let all : List Token = spell_more spell_type (other ∷ more) in
    let group : (spell_type ty ++ (all ++ close)) ++ rest ≡ spell_type ty ++ (all ++ (close ++ rest)) = append_assoc (spell_type ty) (all ++ close) rest ∙ ap (λ (t : List Token). spell_type ty ++ t) (append_assoc all close rest) in
    ap (λ (t : List Token). either (mark_at m.OpenParen (Sign m.OpenParen ∷ t)) parts_at (one_at (Sign m.OpenParen ∷ t))) group
    ∙ rw (mark_again m.OpenParen (spell_type ty ++ (all ++ (close ++ rest))), (round_begins ty.wraps ty.base (all ++ (close ++ rest))).closed) (types_again ty other more rest h)

out_begins : (out : List TypeText) (rest : List Token) → key_at k.RpcResult (spell_out out ++ rest) ≡ None
unfolding key_at
out_begins [] rest = refl
out_begins (ty ∷ []) rest = (round_begins ty.wraps ty.base rest).rpc
out_begins (ty ∷ other ∷ more) rest = refl

result_again : (result : ResultText) (rest : List Token) → IsResult result → mark_at m.Arrow rest ≡ None → result_at (spell_result result ++ rest) ≡ Some (part result rest)
unfolding result_at key_at
result_again Missing rest h none = rw none refl
result_again (Plain out) rest h none = rw (mark_again m.Arrow (spell_out out ++ rest), out_begins out rest, out_again out rest h) refl
result_again (Rpc out) rest h none =
    let greater : List Token = Sign m.Greater ∷ [] in
    let group : (spell_out out ++ greater) ++ rest ≡ spell_out out ++ (greater ++ rest) = append_assoc (spell_out out) greater rest in
    rw (group, mark_again m.Arrow (Reserved k.RpcResult ∷ Sign m.Less ∷ (spell_out out ++ (greater ++ rest))), mark_again m.Less (spell_out out ++ (greater ++ rest)), out_again out (greater ++ rest) h, mark_again m.Greater rest) refl

no_arrow : mark_at m.Arrow (Sign m.Semicolon ∷ []) ≡ None
unfolding mark_at
no_arrow = refl

again : (p q : Bool) (line : IdlLine) → IsForm line → line_at (spell_line (choice p q) line) ≡ Some line
unfolding line_at form_at open_at head_at field_at attribute_at receiver_at method_at name_at mark_at key_at word_at end_at
again true q (Struct name) h = refl
again false q (Struct name) h = refl
again true q (Trait name) h = refl
again false q (Trait name) h = refl
again true true (Field name ty) h = rw (whole_again ty (Sign m.Comma ∷ []) h) refl
again true false (Field name ty) h = rw (whole_again ty [] h) refl
again false true (Field name ty) h = rw (whole_again ty (Sign m.Comma ∷ []) h) refl
again false false (Field name ty) h = rw (whole_again ty [] h) refl
again p q Idempotent h = refl
again p q (Method name params result) h =
    let tail : List Token = spell_result result ++ (Sign m.Semicolon ∷ []) in
    rw (all_again spell_param IsParam param_at param_again params (Sign m.CloseParen ∷ tail) (params_valid params h.0) (no_comma tail), result_again result (Sign m.Semicolon ∷ []) h.1 no_arrow) refl
again p q Close h = refl

pub line_again : (c : Choice) (line : IdlLine) → IsForm line → line_at (spell_line c line) ≡ Some line
line_again c line h = again c.public c.comma line h
