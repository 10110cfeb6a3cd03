-- Lines: what is read is spelled so.
use Rattle.std.proofs.Common.{◌≡◌, ℕ, inl, inr, Bool, true, false, List, [], ◌∷◌, ◌++◌, Option, None, Some, refl, sym, ap, subst, ◌∙◌, append_assoc, append-nil}
use Rattle.std.specs.Prelude.{codes}
use Rattle.rl_defs.specs.declared.lexeme.Key.TheVariants as k
use Rattle.rl_defs.specs.declared.lexeme.Mark.TheVariants as m
use Rattle.rl_defs.specs.declared.idl.TypeText.{TypeText}
use Rattle.rl_defs.specs.declared.idl.Param.{Param}
use Rattle.rl_defs.specs.declared.idl.ResultText.{ResultText}
use Rattle.rl_defs.specs.declared.idl.ResultText.TheVariants.{Missing, Plain, Rpc}
use Rattle.rl_defs.specs.declared.idl.IdlLine.{IdlLine}
use Rattle.rl_defs.specs.declared.idl.IdlLine.TheVariants.{Struct, Field, Trait, Idempotent, Method, Close}
use Rattle.rl_defs.specs.Tokens.{Token, Name, Reserved, Sign}
use Rattle.rl_defs.specs.IdlForms.{spell_type, spell_more, spell_param, spell_out, spell_result, Choice, maybe, spell_line, IsType, AreTypes, AreParams, IsResult, IsForm}
use Rattle.rl_text.specs.Reading.{◌>>=◌, either, mark_at, key_at, word_at, end_at}
use Rattle.rl_text.specs.Many.{all_at}
use Rattle.rl_text.proofs.PartLaws.{part, both_parts, bind_some, either_some, mark_takes, key_takes, mark_step, key_step, word_step, name_step, end_takes, Takes}
use Rattle.rl_text.proofs.ManyLaws.{AllValid, all_takes}
use Rattle.idl_syntax.specs.Lines.{whole_type_at, param_at, several, types_at, parts_at, one_at, out_at, rpc_at, plain_out_at, behind_arrow_at, result_at, head_at, struct_at, trait_at, behind_comma, field_at, attribute_at, receiver_at, method_at, open_at, close_at, form_at, line_at}
use Rattle.idl_syntax.proofs.PartTakes.{whole_takes, param_takes, IsParam}

are_types : (l : List TypeText) → AllValid IsType l → AreTypes l
are_types [] h = tt
are_types (ty ∷ more) h = (h.0, are_types more h.1)

are_params : (l : List Param) → AllValid IsParam l → AreParams l
are_params [] h = tt
are_params (p ∷ more) h = (h.0, are_params more h.1)

-- a value moved along equal parts
moved : {A : Type 0} (spell : A → List Token) (Valid : A → Type 0) (ts : List Token) (a b : A) (x y : List Token) → Some (part a x) ≡ Some (part b y) → (ts ≡ spell a ++ x) × Valid a → (ts ≡ spell b ++ y) × Valid b
moved {A} spell Valid ts a b x y e h =
    let q = both_parts (part a x) (part b y) e in
    (h.0 ∙ ap (λ (z : A). spell z ++ x) q.0 ∙ ap (λ (z : List Token). spell b ++ z) q.1, subst Valid q.0 h.1)

-- ---- results

several_takes : (first : TypeText) (more out : List TypeText) (ts tail rest : List Token) → IsType first → AllValid IsType more → ts ≡ Sign m.OpenParen ∷ spell_type first ++ (spell_more spell_type more ++ (Sign m.CloseParen ∷ tail)) → several first more tail ≡ Some (part out rest) → (ts ≡ spell_out out ++ rest) × AreTypes out
several_takes first [] out ts tail rest v vs is e = absurd cc
several_takes first (other ∷ more) out ts tail rest v vs is e =
    let close : List Token = Sign m.CloseParen ∷ [] in
    let all : List Token = spell_more spell_type (other ∷ more) in
    let group : spell_type first ++ (all ++ (close ++ tail)) ≡ (spell_type first ++ (all ++ close)) ++ tail = ap (λ (t : List Token). spell_type first ++ t) (sym (append_assoc all close tail)) ∙ sym (append_assoc (spell_type first) (all ++ close) tail) in
    moved spell_out AreTypes ts (first ∷ other ∷ more) out tail rest e (is ∙ ap (λ (t : List Token). Sign m.OpenParen ∷ t) group, (v, are_types (other ∷ more) vs))

types_takes : (out : List TypeText) (ts behind rest : List Token) → ts ≡ Sign m.OpenParen ∷ behind → types_at behind ≡ Some (part out rest) → (ts ≡ spell_out out ++ rest) × AreTypes out
unfolding types_at
types_takes out ts behind rest is e =
    let x = bind_some (whole_type_at behind) (λ first. all_at whole_type_at first.1 >>= λ more. mark_at m.CloseParen more.1 >>= λ a. several first.0 more.0 a) (part out rest) e in
    let y = bind_some (all_at whole_type_at x.0.1) (λ more. mark_at m.CloseParen more.1 >>= λ a. several x.0.0 more.0 a) (part out rest) x.2 in
    let z = mark_step m.CloseParen y.0.1 (λ a. several x.0.0 y.0.0 a) (part out rest) y.2 in
    let p = whole_takes behind x.0.0 x.0.1 x.1 in
    let q = all_takes spell_type IsType whole_type_at whole_takes x.0.1 y.0.0 y.0.1 y.1 in
    several_takes x.0.0 y.0.0 out ts z.0 rest p.1 q.1 (is ∙ ap (λ (t : List Token). Sign m.OpenParen ∷ t) (p.0 ∙ ap (λ (t : List Token). spell_type x.0.0 ++ t) (q.0 ∙ ap (λ (t : List Token). spell_more spell_type y.0.0 ++ t) z.1))) z.2

parts_takes : (out : List TypeText) (ts behind rest : List Token) → ts ≡ Sign m.OpenParen ∷ behind → parts_at behind ≡ Some (part out rest) → (ts ≡ spell_out out ++ rest) × AreTypes out
parts_takes out ts behind rest is e = elim (either_some (mark_at m.CloseParen behind) (λ a. Some (part [] a)) (types_at behind) (part out rest) e) [
  | inl x ↦ moved spell_out AreTypes ts [] out x.x rest x.gives (is ∙ ap (λ (t : List Token). Sign m.OpenParen ∷ t) (mark_takes m.CloseParen behind x.x x.is), tt)
  | inr x ↦ types_takes out ts behind rest is x.1
]

one_takes : (out : List TypeText) (ts rest : List Token) → one_at ts ≡ Some (part out rest) → (ts ≡ spell_out out ++ rest) × AreTypes out
one_takes out ts rest e =
    let x = bind_some (whole_type_at ts) (λ ty. Some (part (ty.0 ∷ []) ty.1)) (part out rest) e in
    let p = whole_takes ts x.0.0 x.0.1 x.1 in
    moved spell_out AreTypes ts (x.0.0 ∷ []) out x.0.1 rest x.2 (p.0, (p.1, tt))

out_takes : Takes spell_out AreTypes out_at
unfolding out_at
out_takes ts out rest e = elim (either_some (mark_at m.OpenParen ts) parts_at (one_at ts) (part out rest) e) [
  | inl x ↦ parts_takes out ts x.x rest (mark_takes m.OpenParen ts x.x x.is) x.gives
  | inr x ↦ one_takes out ts rest x.1
]

rpc_takes : (result : ResultText) (ts behind rest : List Token) → ts ≡ Sign m.Arrow ∷ Reserved k.RpcResult ∷ behind → rpc_at behind ≡ Some (part result rest) → (ts ≡ spell_result result ++ rest) × IsResult result
rpc_takes result ts behind rest is e =
    let x = mark_step m.Less behind (λ a. out_at a >>= λ out. mark_at m.Greater out.1 >>= λ b. Some (part (Rpc out.0) b)) (part result rest) e in
    let y = bind_some (out_at x.0) (λ out. mark_at m.Greater out.1 >>= λ b. Some (part (Rpc out.0) b)) (part result rest) x.2 in
    let p = out_takes x.0 y.0.0 y.0.1 y.1 in
    let z = mark_step m.Greater y.0.1 (λ b. Some (part (Rpc y.0.0) b)) (part result rest) y.2 in
    moved spell_result IsResult ts (Rpc y.0.0) result z.0 rest z.2
    (is ∙ ap (λ (t : List Token). Sign m.Arrow ∷ Reserved k.RpcResult ∷ t) (x.1 ∙ ap (λ (t : List Token). Sign m.Less ∷ t) (p.0 ∙ ap (λ (t : List Token). spell_out y.0.0 ++ t) z.1 ∙ sym (append_assoc (spell_out y.0.0) (Sign m.Greater ∷ []) z.0))), p.1)

plain_out_takes : (result : ResultText) (ts behind rest : List Token) → ts ≡ Sign m.Arrow ∷ behind → plain_out_at behind ≡ Some (part result rest) → (ts ≡ spell_result result ++ rest) × IsResult result
plain_out_takes result ts behind rest is e =
    let x = bind_some (out_at behind) (λ out. Some (part (Plain out.0) out.1)) (part result rest) e in
    let p = out_takes behind x.0.0 x.0.1 x.1 in
    moved spell_result IsResult ts (Plain x.0.0) result x.0.1 rest x.2 (is ∙ ap (λ (t : List Token). Sign m.Arrow ∷ t) p.0, p.1)

arrow_takes : (result : ResultText) (ts behind rest : List Token) → ts ≡ Sign m.Arrow ∷ behind → behind_arrow_at behind ≡ Some (part result rest) → (ts ≡ spell_result result ++ rest) × IsResult result
arrow_takes result ts behind rest is e = elim (either_some (key_at k.RpcResult behind) rpc_at (plain_out_at behind) (part result rest) e) [
  | inl x ↦ rpc_takes result ts x.x rest (is ∙ ap (λ (t : List Token). Sign m.Arrow ∷ t) (key_takes k.RpcResult behind x.x x.is)) x.gives
  | inr x ↦ plain_out_takes result ts behind rest is x.1
]

result_takes : Takes spell_result IsResult result_at
unfolding result_at
result_takes ts result rest e = elim (either_some (mark_at m.Arrow ts) behind_arrow_at (Some (part Missing ts)) (part result rest) e) [
  | inl x ↦ arrow_takes result ts x.x rest (mark_takes m.Arrow ts x.x x.is) x.gives
  | inr x ↦ moved spell_result IsResult ts Missing result ts rest x.1 (refl, tt)
]

-- ---- lines

abbrev pub choice : Bool → Bool → Choice
choice public comma = record { public = public; comma = comma }

-- a line whose front may have `pub`
pub record OpenGave (ts : List Token) (line : IdlLine) (rest : List Token) : Type 0 where
  pub comma : Bool
  pub spelled : (public : Bool) → maybe public (Reserved k.Pub) ++ ts ≡ spell_line (choice public comma) line ++ rest
  pub valid : IsForm line

pub record Gave (ts : List Token) (line : IdlLine) (rest : List Token) : Type 0 where
  pub choice : Choice
  pub spelled : ts ≡ spell_line choice line ++ rest
  pub valid : IsForm line

open_moved : (ts : List Token) (a b : IdlLine) (x y : List Token) → Some (part a x) ≡ Some (part b y) → OpenGave ts a x → OpenGave ts b y
open_moved ts a b x y e h = let q = both_parts (part a x) (part b y) e in subst (λ (z : List Token). OpenGave ts b z) q.1 (subst (λ (z : IdlLine). OpenGave ts z x) q.0 h)

gave_moved : (ts : List Token) (a b : IdlLine) (x y : List Token) → Some (part a x) ≡ Some (part b y) → Gave ts a x → Gave ts b y
gave_moved ts a b x y e h = let q = both_parts (part a x) (part b y) e in subst (λ (z : List Token). Gave ts b z) q.1 (subst (λ (z : IdlLine). Gave ts z x) q.0 h)

head_takes : (ts : List Token) (name : List ℕ) (rest : List Token) → head_at ts ≡ Some (part name rest) → ts ≡ Name name ∷ Sign m.OpenBrace ∷ rest
unfolding head_at
head_takes ts name rest e =
    let x = name_step ts (λ n. mark_at m.OpenBrace n.1 >>= λ a. Some (part n.0 a)) (part name rest) e in
    let y = mark_step m.OpenBrace x.0.1 (λ a. Some (part x.0.0 a)) (part name rest) x.2 in
    let q = both_parts (part x.0.0 y.0) (part name rest) y.2 in
    cc (x.1, y.1, q.0, q.1)

struct_takes : (ts behind rest : List Token) (line : IdlLine) → ts ≡ Reserved k.Struct ∷ behind → struct_at behind ≡ Some (part line rest) → OpenGave ts line rest
struct_takes ts behind rest line is e =
    let x = bind_some (head_at behind) (λ name. Some (part (Struct name.0) name.1)) (part line rest) e in
    let h = head_takes behind x.0.0 x.0.1 x.1 in
    open_moved ts (Struct x.0.0) line x.0.1 rest x.2 (record {
      comma = true;
      spelled = λ public. ap (λ (t : List Token). maybe public (Reserved k.Pub) ++ t) (is ∙ ap (λ (t : List Token). Reserved k.Struct ∷ t) h) ∙ sym (append_assoc (maybe public (Reserved k.Pub)) (Reserved k.Struct ∷ Name x.0.0 ∷ Sign m.OpenBrace ∷ []) x.0.1);
      valid = tt;
    })

trait_takes : (ts behind rest : List Token) (line : IdlLine) → ts ≡ Reserved k.Trait ∷ behind → trait_at behind ≡ Some (part line rest) → OpenGave ts line rest
trait_takes ts behind rest line is e =
    let x = bind_some (head_at behind) (λ name. Some (part (Trait name.0) name.1)) (part line rest) e in
    let h = head_takes behind x.0.0 x.0.1 x.1 in
    open_moved ts (Trait x.0.0) line x.0.1 rest x.2 (record {
      comma = true;
      spelled = λ public. ap (λ (t : List Token). maybe public (Reserved k.Pub) ++ t) (is ∙ ap (λ (t : List Token). Reserved k.Trait ∷ t) h) ∙ sym (append_assoc (maybe public (Reserved k.Pub)) (Reserved k.Trait ∷ Name x.0.0 ∷ Sign m.OpenBrace ∷ []) x.0.1);
      valid = tt;
    })

comma_takes : (ts : List Token) → (comma : Bool) × (ts ≡ maybe comma (Sign m.Comma) ++ behind_comma ts)
comma_takes ts = go (mark_at m.Comma ts) refl where
  go : (r : Option (List Token)) → mark_at m.Comma ts ≡ r → (comma : Bool) × (ts ≡ maybe comma (Sign m.Comma) ++ behind_comma ts)
  go (Some rest) e = (true, rw e (mark_takes m.Comma ts rest e))
  go None e = (false, rw e refl)

field_takes : (ts rest : List Token) (line : IdlLine) → field_at ts ≡ Some (part line rest) → OpenGave ts line rest
unfolding field_at
field_takes ts rest line e =
    let x = name_step ts (λ name. mark_at m.Colon name.1 >>= λ a. whole_type_at a >>= λ ty. Some (part (Field name.0 ty.0) (behind_comma ty.1))) (part line rest) e in
    let y = mark_step m.Colon x.0.1 (λ a. whole_type_at a >>= λ ty. Some (part (Field x.0.0 ty.0) (behind_comma ty.1))) (part line rest) x.2 in
    let z = bind_some (whole_type_at y.0) (λ ty. Some (part (Field x.0.0 ty.0) (behind_comma ty.1))) (part line rest) y.2 in
    let p = whole_takes y.0 z.0.0 z.0.1 z.1 in
    field_gave ts rest line x.0.0 z.0.0 x.0.1 y.0 z.0.1 x.1 y.1 p.0 p.1 z.2
  where
    field_gave : (ts rest : List Token) (line : IdlLine) (name : List ℕ) (ty : TypeText) (a b c : List Token) → ts ≡ Name name ∷ a → a ≡ Sign m.Colon ∷ b → b ≡ spell_type ty ++ c → IsType ty → Some (part (Field name ty) (behind_comma c)) ≡ Some (part line rest) → OpenGave ts line rest
    field_gave ts rest line name ty a b c one two three valid e =
        let d = comma_takes c in
        let tail : List Token = maybe d.0 (Sign m.Comma) in
        let group : spell_type ty ++ c ≡ (spell_type ty ++ tail) ++ behind_comma c = ap (λ (t : List Token). spell_type ty ++ t) d.1 ∙ sym (append_assoc (spell_type ty) tail (behind_comma c)) in
        open_moved ts (Field name ty) line (behind_comma c) rest e (record {
          comma = d.0;
          spelled = λ public. ap (λ (t : List Token). maybe public (Reserved k.Pub) ++ t) (one ∙ ap (λ (t : List Token). Name name ∷ t) (two ∙ ap (λ (t : List Token). Sign m.Colon ∷ t) (three ∙ group))) ∙ sym (append_assoc (maybe public (Reserved k.Pub)) (Name name ∷ Sign m.Colon ∷ spell_type ty ++ tail) (behind_comma c));
          valid = valid;
        })

open_takes : (ts rest : List Token) (line : IdlLine) → open_at ts ≡ Some (part line rest) → OpenGave ts line rest
unfolding open_at
open_takes ts rest line e = elim (either_some (key_at k.Struct ts) struct_at (either (key_at k.Trait ts) trait_at (field_at ts)) (part line rest) e) [
  | inl x ↦ struct_takes ts x.x rest line (key_takes k.Struct ts x.x x.is) x.gives
  | inr a ↦ elim (either_some (key_at k.Trait ts) trait_at (field_at ts) (part line rest) a.1) [
    | inl x ↦ trait_takes ts x.x rest line (key_takes k.Trait ts x.x x.is) x.gives
    | inr b ↦ field_takes ts rest line b.1
  ]
]

attribute_takes : (ts behind rest : List Token) (line : IdlLine) → ts ≡ Sign m.Hash ∷ behind → attribute_at behind ≡ Some (part line rest) → Gave ts line rest
unfolding attribute_at
attribute_takes ts behind rest line is e =
    let x = mark_step m.OpenBracket behind (λ a. word_at (codes "idempotent") a >>= λ b. mark_at m.CloseBracket b >>= λ c. Some (part Idempotent c)) (part line rest) e in
    let y = word_step (codes "idempotent") x.0 (λ b. mark_at m.CloseBracket b >>= λ c. Some (part Idempotent c)) (part line rest) x.2 in
    let z = mark_step m.CloseBracket y.0 (λ c. Some (part Idempotent c)) (part line rest) y.2 in
    gave_moved ts Idempotent line z.0 rest z.2 (record {
      choice = choice true true;
      spelled = is ∙ ap (λ (t : List Token). Sign m.Hash ∷ t) (x.1 ∙ ap (λ (t : List Token). Sign m.OpenBracket ∷ t) (y.1 ∙ ap (λ (t : List Token). Name (codes "idempotent") ∷ t) z.1));
      valid = tt;
    })

receiver_takes : (ts : List Token) (name : List ℕ) (rest : List Token) → receiver_at ts ≡ Some (part name rest) → ts ≡ Name name ∷ Sign m.OpenParen ∷ Sign m.Ampersand ∷ Reserved k.SelfWord ∷ rest
unfolding receiver_at
receiver_takes ts name rest e =
    let x = name_step ts (λ n. mark_at m.OpenParen n.1 >>= λ a. mark_at m.Ampersand a >>= λ b. key_at k.SelfWord b >>= λ c. Some (part n.0 c)) (part name rest) e in
    let y = mark_step m.OpenParen x.0.1 (λ a. mark_at m.Ampersand a >>= λ b. key_at k.SelfWord b >>= λ c. Some (part x.0.0 c)) (part name rest) x.2 in
    let z = mark_step m.Ampersand y.0 (λ b. key_at k.SelfWord b >>= λ c. Some (part x.0.0 c)) (part name rest) y.2 in
    let w = key_step k.SelfWord z.0 (λ c. Some (part x.0.0 c)) (part name rest) z.2 in
    let q = both_parts (part x.0.0 w.0) (part name rest) w.2 in
    cc (x.1, y.1, z.1, w.1, q.0, q.1)

method_gave : (ts rest : List Token) (line : IdlLine) (name : List ℕ) (params : List Param) (result : ResultText) (behind a b c d e : List Token) → ts ≡ Reserved k.Fn ∷ behind → behind ≡ Name name ∷ Sign m.OpenParen ∷ Sign m.Ampersand ∷ Reserved k.SelfWord ∷ a → a ≡ spell_more spell_param params ++ b → AllValid IsParam params → b ≡ Sign m.CloseParen ∷ c → c ≡ spell_result result ++ d → IsResult result → d ≡ Sign m.Semicolon ∷ e → Some (part (Method name params result) e) ≡ Some (part line rest) → Gave ts line rest
method_gave ts rest line name params result behind a b c d e one two three vp four five vr six last =
    let semicolon : List Token = Sign m.Semicolon ∷ [] in
    let tail : c ≡ (spell_result result ++ semicolon) ++ e = five ∙ ap (λ (t : List Token). spell_result result ++ t) six ∙ sym (append_assoc (spell_result result) semicolon e) in
    let all : a ≡ (spell_more spell_param params ++ (Sign m.CloseParen ∷ spell_result result ++ semicolon)) ++ e = three ∙ ap (λ (t : List Token). spell_more spell_param params ++ t) (four ∙ ap (λ (t : List Token). Sign m.CloseParen ∷ t) tail) ∙ sym (append_assoc (spell_more spell_param params) (Sign m.CloseParen ∷ spell_result result ++ semicolon) e) in
    gave_moved ts (Method name params result) line e rest last (record {
      choice = choice true true;
      spelled = one ∙ ap (λ (t : List Token). Reserved k.Fn ∷ t) (two ∙ ap (λ (t : List Token). Name name ∷ Sign m.OpenParen ∷ Sign m.Ampersand ∷ Reserved k.SelfWord ∷ t) all);
      valid = (are_params params vp, vr);
    })

method_takes : (ts behind rest : List Token) (line : IdlLine) → ts ≡ Reserved k.Fn ∷ behind → method_at behind ≡ Some (part line rest) → Gave ts line rest
unfolding method_at
method_takes ts behind rest line is e =
    let v = bind_some (receiver_at behind) (λ name. all_at param_at name.1 >>= λ params. mark_at m.CloseParen params.1 >>= λ a. result_at a >>= λ result. mark_at m.Semicolon result.1 >>= λ b. Some (part (Method name.0 params.0 result.0) b)) (part line rest) e in
    let w = bind_some (all_at param_at v.0.1) (λ params. mark_at m.CloseParen params.1 >>= λ a. result_at a >>= λ result. mark_at m.Semicolon result.1 >>= λ b. Some (part (Method v.0.0 params.0 result.0) b)) (part line rest) v.2 in
    let x = mark_step m.CloseParen w.0.1 (λ a. result_at a >>= λ result. mark_at m.Semicolon result.1 >>= λ b. Some (part (Method v.0.0 w.0.0 result.0) b)) (part line rest) w.2 in
    let y = bind_some (result_at x.0) (λ result. mark_at m.Semicolon result.1 >>= λ b. Some (part (Method v.0.0 w.0.0 result.0) b)) (part line rest) x.2 in
    let z = mark_step m.Semicolon y.0.1 (λ b. Some (part (Method v.0.0 w.0.0 y.0.0) b)) (part line rest) y.2 in
    let p = all_takes spell_param IsParam param_at param_takes v.0.1 w.0.0 w.0.1 w.1 in
    let q = result_takes x.0 y.0.0 y.0.1 y.1 in
    method_gave ts rest line v.0.0 w.0.0 y.0.0 behind v.0.1 w.0.1 x.0 y.0.1 z.0 is (receiver_takes behind v.0.0 v.0.1 v.1) p.0 p.1 x.1 q.0 q.1 z.1 z.2

public_gave : (ts behind rest : List Token) (line : IdlLine) → ts ≡ Reserved k.Pub ∷ behind → OpenGave behind line rest → Gave ts line rest
public_gave ts behind rest line is h = record { choice = choice true h.comma; spelled = is ∙ h.spelled true; valid = h.valid }

bare_gave : (ts rest : List Token) (line : IdlLine) → OpenGave ts line rest → Gave ts line rest
bare_gave ts rest line h = record { choice = choice false h.comma; spelled = h.spelled false; valid = h.valid }

form_takes : (ts rest : List Token) (line : IdlLine) → form_at ts ≡ Some (part line rest) → Gave ts line rest
unfolding form_at
form_takes ts rest line e = elim (either_some (key_at k.Pub ts) open_at (either (key_at k.Fn ts) method_at (either (mark_at m.Hash ts) attribute_at (either (mark_at m.CloseBrace ts) close_at (open_at ts)))) (part line rest) e) [
  | inl x ↦ public_gave ts x.x rest line (key_takes k.Pub ts x.x x.is) (open_takes x.x rest line x.gives)
  | inr a ↦ elim (either_some (key_at k.Fn ts) method_at (either (mark_at m.Hash ts) attribute_at (either (mark_at m.CloseBrace ts) close_at (open_at ts))) (part line rest) a.1) [
    | inl x ↦ method_takes ts x.x rest line (key_takes k.Fn ts x.x x.is) x.gives
    | inr b ↦ elim (either_some (mark_at m.Hash ts) attribute_at (either (mark_at m.CloseBrace ts) close_at (open_at ts)) (part line rest) b.1) [
      | inl x ↦ attribute_takes ts x.x rest line (mark_takes m.Hash ts x.x x.is) x.gives
      | inr c ↦ elim (either_some (mark_at m.CloseBrace ts) close_at (open_at ts) (part line rest) c.1) [
        | inl x ↦ gave_moved ts Close line x.x rest x.gives (record { choice = choice true true; spelled = mark_takes m.CloseBrace ts x.x x.is; valid = tt })
        | inr d ↦ bare_gave ts rest line (open_takes ts rest line d.1)
      ]
    ]
  ]
]

pub line_takes : (ts : List Token) (line : IdlLine) → line_at ts ≡ Some line → (c : Choice) × (ts ≡ spell_line c line) × IsForm line
unfolding line_at
line_takes ts line e =
    let x = bind_some (form_at ts) (λ form. end_at form.1 >>= λ a. Some form.0) line e in
    let y = bind_some (end_at x.0.1) (λ a. Some x.0.0) line x.2 in
    let g = form_takes ts x.0.1 x.0.0 x.1 in
    let none : x.0.1 ≡ [] = end_takes x.0.1 y.0 y.1 in
    let same : x.0.0 ≡ line = (let f = y.2 in cc) in
    (g.choice, g.spelled ∙ ap (λ (t : List Token). spell_line g.choice x.0.0 ++ t) none ∙ append-nil (spell_line g.choice x.0.0) ∙ ap (spell_line g.choice) same, subst IsForm same g.valid)
