-- The reserved word that a run is, found by its front.
use Rattle.std.proofs.Common.{◌≡◌, ℕ, Bool, true, false, cond, List, [], ◌∷◌, map, Option, None, Some, refl, sym, ap, ◌∙◌}
use Rattle.std.specs.Prelude.{find, nat_eq}
use Rattle.std.specs.List.{list_any}
use Rattle.std.specs.Cmp.Lexicographic.{pointwise}
use Rattle.std.proofs.lemmas.Bool.Decides.{Decides-eqb}
use Rattle.std.proofs.lemmas.Slice.Eq.{slice_eq-Decides}
use Rattle.rl_defs.specs.declared.lexeme.Key.{Key}
use Rattle.rl_defs.specs.declared.lexeme.Key.TheVariants as k
use Rattle.rl_defs.specs.Words.{is_reserved, same_bytes}
use Rattle.rl_defs.specs.Tokens.{key_text}
use Rattle.rl_text.specs.Scan.{all_keys, key_of, likely_key}
use Rattle.rl_text.proofs.TokenLaws.{key_here, key_is}

likely_here : (key : Key) → likely_key (key_text key) ≡ Some key
likely_here k.Pub = refl
likely_here k.Struct = refl
likely_here k.Trait = refl
likely_here k.Fn = refl
likely_here k.SelfWord = refl
likely_here k.RRef = refl
likely_here k.RpcResult = refl
likely_here k.Dyn = refl
likely_here k.Mut = refl
likely_here k.Const = refl
likely_here k.Box = refl
likely_here k.Vec = refl
likely_here k.String = refl
likely_here k.Bool = refl
likely_here k.U8 = refl
likely_here k.U16 = refl
likely_here k.U32 = refl
likely_here k.U64 = refl
likely_here k.Num = refl

likely : (run : List ℕ) (key : Key) → key_of run ≡ Some key → likely_key run ≡ Some key
likely run key e = ap likely_key (sym (key_is run key e)) ∙ likely_here key

-- the likely word is the run
pub key_found : (run : List ℕ) (key : Key) → key_text key ≡ run → key_of run ≡ Some key
key_found run key e = ap key_of (sym e) ∙ key_here key

-- no word is likely
pub key_none : (run : List ℕ) → likely_key run ≡ None → key_of run ≡ None
key_none run none = go (key_of run) refl where
  go : (o : Option Key) → key_of run ≡ o → key_of run ≡ None
  go None e = e
  go (Some key) e = absurd (let f = sym none ∙ likely run key e in cc)

-- the likely word is another one
pub key_other : (run : List ℕ) (key : Key) → likely_key run ≡ Some key → (key_text key ≡ run → ⊥) → key_of run ≡ None
key_other run key one other = go (key_of run) refl where
  go : (o : Option Key) → key_of run ≡ o → key_of run ≡ None
  go None e = e
  go (Some found) e =
      let f : Some key ≡ Some found = sym one ∙ likely run found e in
      let same : key ≡ found = cc in
      absurd (other (ap key_text same ∙ key_is run found e))

-- what comparing the likely word's bytes with the run says
pub key_same : (run text : List ℕ) (key : Key) → text ≡ key_text key → pointwise nat_eq text run ≡ true → key_of run ≡ Some key
key_same run text key is same = key_found run key (sym is ∙ (slice_eq-Decides Decides-eqb text run true (sym same)).0 refl)

pub key_differs : (run text : List ℕ) (key : Key) → likely_key run ≡ Some key → text ≡ key_text key → pointwise nat_eq text run ≡ false → key_of run ≡ None
key_differs run text key one is differs = key_other run key one (λ e. let f = (slice_eq-Decides Decides-eqb text run false (sym differs)).1 (is ∙ e) in cc)

any_step : {A B : Type 0} (p : B → Bool) (f : A → B) (x : A) (xs : List A) (b : Bool) → p (f x) ≡ b → (find (λ y. p (f y)) xs ≡ None → list_any p (map f xs) ≡ false) → cond b (Some x) (find (λ y. p (f y)) xs) ≡ None → list_any p (map f (x ∷ xs)) ≡ false
any_step p f x xs true is more e = absurd cc
any_step p f x xs false is more e = rw is (more e)

none_any : {A B : Type 0} (p : B → Bool) (f : A → B) (xs : List A) → find (λ x. p (f x)) xs ≡ None → list_any p (map f xs) ≡ false
none_any p f [] e = refl
none_any p f (x ∷ xs) e = any_step p f x xs (p (f x)) refl (none_any p f xs) e

-- a run that is no reserved word is free
pub key_free : (run : List ℕ) → key_of run ≡ None → is_reserved run ≡ false
unfolding key_of
key_free run e = none_any (λ word. same_bytes word run) key_text all_keys e
