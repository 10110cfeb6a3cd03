-- Known bytes, over several calls.
use Rattle.std.proofs.Common.{◌≡◌, ℕ, ◌+◌, ◌<◌, List, ◌++◌, take, length, Option, Some, None, sym, ◌∙◌, ap, append_assoc, append-nil, arith, length-append}
use Rattle.std.proofs.Math.Seq.{take-append-add}
use Rattle.std.specs.Io.KnownBytes.{Appends, Consumes, IsAtEnd, Keeps}
use Rattle.rl_io.specs.Whole.{ConsumesMoreThan}

-- one taking after another
pub Consumes-append : (a b c : Option (List ℕ)) (xs ys : List ℕ) → Consumes a b xs → Consumes b c ys → Consumes a c (xs ++ ys)
Consumes-append None b c xs ys h k = tt
Consumes-append (Some a) None c xs ys h k = absurd h
Consumes-append (Some a) (Some b) None xs ys h k = absurd k
Consumes-append (Some a) (Some b) (Some c) xs ys h k = h ∙ ap (λ zs. xs ++ zs) k ∙ sym (append_assoc xs ys c)

-- one giving after another
pub Appends-append : (a b c : Option (List ℕ)) (xs ys : List ℕ) → Appends a b xs → Appends b c ys → Appends a c (xs ++ ys)
Appends-append None b c xs ys h k = tt
Appends-append (Some a) None c xs ys h k = absurd h
Appends-append (Some a) (Some b) None xs ys h k = absurd k
Appends-append (Some a) (Some b) (Some c) xs ys h k = k ∙ ap (λ zs. zs ++ ys) h ∙ append_assoc a xs ys

-- a taking, and then none
pub Consumes-keep : (a b c : Option (List ℕ)) (xs : List ℕ) → Consumes a b xs → Keeps b c → Consumes a c xs
Consumes-keep None b c xs h k = tt
Consumes-keep (Some a) None c xs h k = absurd h
Consumes-keep (Some a) (Some b) None xs h k = absurd k
Consumes-keep (Some a) (Some b) (Some c) xs h k = h ∙ ap (λ zs. xs ++ zs) (sym k)

-- a whole piece given, and then the first n bytes of the next
pub Appends-append_front : (a b c : Option (List ℕ)) (xs ys : List ℕ) (n : ℕ) → Appends a b xs → Appends b c (take n ys) → Appends a c (take (length xs + n) (xs ++ ys))
Appends-append_front a b c xs ys n h k = rw take-append-add (Appends-append a b c xs (take n ys) h k)

-- what was taken to the end is all that was left
pub left_before_end : (xs bytes : List ℕ) (b : Option (List ℕ)) → Consumes (Some xs) b bytes → IsAtEnd b → xs ≡ bytes
left_before_end xs bytes None h end = absurd h
left_before_end xs bytes (Some ys) h end = h ∙ ap (λ zs. bytes ++ zs) end ∙ append-nil bytes

-- where more came than so many, more were left
pub left_more : (limit : ℕ) (xs : List ℕ) (b : Option (List ℕ)) → ConsumesMoreThan limit (Some xs) b → limit < length xs
left_more limit xs None h = absurd h.2
left_more limit xs (Some ys) h = omega (arith, h.1, ap length h.2, length-append h.0 ys)
