-- The text of an entry from its parts.
use Rattle.std.proofs.Common.{◌≡◌, List, ℕ, [], ◌∷◌, ◌++◌, append_assoc, refl, sym, ap, ◌∙◌, codes}
use Rattle.std.specs.Fmt.{decimal}
use Rattle.rl_defs.specs.Domains.{target_name, method_name}
use Rattle.rl_defs.specs.declared.load.LoadRows.{LoadRows}
use Rattle.machine_defs.specs.declared.entry.Entry.{Entry}
use Rattle.machine_defs.specs.declared.entry.Entry.TheVariants as entry
use Rattle.machine_defs.specs.Texts.{entry_text, line, word, client_text, object_text, instance_text, owner_text, struct_name, code_text, args_text, values_text, numbers_text}
use Rattle.history_text.specs.Parts.{head_text, listed_text}

around : (c a b l : List ℕ) → a ≡ b ++ l → (c ++ a) ++ 10 ∷ [] ≡ (c ++ b) ++ (l ++ 10 ∷ [])
around c a b l e = rw (e, append_assoc, append_assoc, append_assoc) refl

joined : (w r m l : List ℕ) → r ≡ m ++ l → w ++ r ≡ (w ++ m) ++ l
joined w r m l e = rw (e, append_assoc) refl

behind : (w r m l : List ℕ) → r ≡ m ++ l → word w r ≡ word w m ++ l
behind w r m l e = ap (λ (x : List ℕ). 32 ∷ x) (joined w r m l e)

-- words before what is listed
one : (w l : List ℕ) → word w l ≡ word w [] ++ l
one w l = behind w l [] l refl

two : (v w l : List ℕ) → word v (word w l) ≡ word v (word w []) ++ l
two v w l = behind v (word w l) (word w []) l (one w l)

three : (u v w l : List ℕ) → word u (word v (word w l)) ≡ word u (word v (word w [])) ++ l
three u v w l = behind u (word v (word w l)) (word v (word w [])) l (two v w l)

four : (t u v w l : List ℕ) → word t (word u (word v (word w l))) ≡ word t (word u (word v (word w []))) ++ l
four t u v w l = behind t (word u (word v (word w l))) (word u (word v (word w []))) l (three u v w l)

five : (s t u v w l : List ℕ) → word s (word t (word u (word v (word w l)))) ≡ word s (word t (word u (word v (word w [])))) ++ l
five s t u v w l = behind s (word t (word u (word v (word w l)))) (word t (word u (word v (word w [])))) l (four t u v w l)

-- a call that enters an instance
entered : (s c x i m l : List ℕ) → word s (word c (word x (codes "/" ++ (i ++ word m l)))) ≡ word s (word c (word x (codes "/" ++ (i ++ word m [])))) ++ l
entered s c x i m l =
    let inside = joined i (word m l) (word m []) l (one m l) in
    let at = joined (codes "/") (i ++ word m l) (i ++ word m []) l inside in
    let of = behind x (codes "/" ++ (i ++ word m l)) (codes "/" ++ (i ++ word m [])) l at in
    let call = behind c (word x (codes "/" ++ (i ++ word m l))) (word x (codes "/" ++ (i ++ word m []))) l of in
    behind s (word c (word x (codes "/" ++ (i ++ word m l)))) (word c (word x (codes "/" ++ (i ++ word m [])))) l call

pub whole : (L : LoadRows) (e : Entry) → entry_text L e ≡ head_text L e ++ line (listed_text L e)
whole L (entry.Call t c x i m args) = around (client_text t) _ _ _ (entered (codes "call") (decimal c) (target_name L x) (instance_text i) (method_name L x m) (args_text L args))
whole L (entry.Refuse t c k x m args) = around (client_text t) _ _ _ (five (codes "refuse") (decimal c) (code_text k) (target_name L x) (method_name L x m) (args_text L args))
whole L (entry.Ret t c results) = around (client_text t) _ _ _ (two (codes "ret") (decimal c) (values_text L results))
whole L (entry.Unwound t c) = refl
whole L (entry.Reload t x i left) = refl
whole L (entry.Again t c x i) = refl
whole L (entry.Trap t i k) = refl
whole L (entry.Kill t i) = refl
whole L (entry.New t w o ty values) = around (client_text t) _ _ _ (four (codes "new") (owner_text w) (object_text o) (struct_name L ty) (numbers_text values))
whole L (entry.Drop t o) = refl
whole L (entry.Set t o place values) = around (client_text t) _ _ _ (three (codes "set") (object_text o) (decimal place) (numbers_text values))
whole L (entry.Wput t i place v) = refl
whole L (entry.Take t i slot o) = refl
whole L (entry.Put t i slot o) = refl
whole L (entry.DevGet t o block) = refl
whole L (entry.DevPut t block o) = refl
whole L (entry.Hang t o place v) = refl
whole L (entry.Unhang t o place v) = refl
whole L (entry.Show t o values) = around (client_text t) _ _ _ (two (codes "show") (object_text o) (values_text L values))
whole L (entry.Skip t k) = refl
whole L (entry.Done t) = refl
whole L (entry.Free o) = refl
