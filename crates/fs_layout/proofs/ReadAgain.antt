-- Each value has its words, and the words their value.
use Rattle.std.proofs.Common.{◌≡◌, ◌⊎◌, ℕ, zero, suc, ◌+◌, ◌-◌, ◌*◌, ◌<◌, ◌≤◌, Bool, true, false, inl, inr, List, Option, Some, None, refl, ap, sym, subst, ◌∙◌, arith, slice_index}
use Rattle.std.proofs.lemmas.Grind.{same_number_lists}
use Rattle.fs_layout.specs.declared.dir_entry.DirEntry.{DirEntry}
use Rattle.fs_layout.specs.declared.inode.Inode.{Inode}
use Rattle.fs_layout.specs.declared.superblock.Super.{Super}
use Rattle.fs_layout.specs.Forms.{word_at, IsSuper, IsNoSuper, used_word, IsInode, IsNoInode, lead_of, IsEntry, IsNoEntry}
use Rattle.fs_layout.specs.Laws.{SameWords, SuperIsReadAgain, InodeIsReadAgain, EntryIsReadAgain, BitmapIsReadAgain}

-- a number is below another or not
below_or_not : (k n : ℕ) → (k < n) ⊎ (n ≤ k)
below_or_not k zero = inr (omega arith)
below_or_not zero (suc n) = inl (omega arith)
below_or_not (suc k) (suc n) = elim (below_or_not k n) [ inl lt ↦ inl (omega arith) | inr le ↦ inr (omega arith) ]

-- a fact of a place behind another is one of that place
at_place : (P : ℕ → Type 0) (from k : ℕ) → from ≤ k → P (from + (k - from)) → P k
at_place P from k le p = subst P (omega arith) p

-- ## Block 0

super_value : (b : List ℕ) (s t : Super) → IsSuper b s → IsSuper b t → s ≡ t
super_value b s t p q =
    let same : s.blocks ≡ t.blocks = sym p.blocks ∙ q.blocks in
    λ z. record { blocks = same z }

super_block : (b c : List ℕ) (s : Super) → IsSuper b s → IsSuper c s → SameWords 0 64 b c
super_block b c s p q zero low high = p.mark ∙ sym q.mark
super_block b c s p q (suc zero) low high = p.blocks ∙ sym q.blocks
super_block b c s p q (suc (suc k)) low high = p.zeros (suc (suc k)) (omega arith) high ∙ sym (q.zeros (suc (suc k)) (omega arith) high)

super_not_refused : (b : List ℕ) (s : Super) → IsSuper b s → ¬ IsNoSuper b
super_not_refused b s p (inl no_mark) = no_mark p.mark
super_not_refused b s p (inr other) = other.3 (p.zeros other.0 other.1 other.2)

pub super_is_read_again : SuperIsReadAgain
super_is_read_again = record { one_value = super_value; one_block = super_block; not_refused = super_not_refused }

-- ## Inodes

same_used : (x y : Bool) → used_word x ≡ used_word y → x ≡ y
same_used true true e = refl
same_used false false e = refl
same_used true false e = absurd (omega (arith, e))
same_used false true e = absurd (omega (arith, e))

inode_value : (b : List ℕ) (at : ℕ) (i j : Inode) → IsInode b at i → IsInode b at j → i ≡ j
inode_value b at i j p q =
    let used : i.used ≡ j.used = same_used _ _ (sym p.used ∙ q.used) in
    let len : i.len ≡ j.len = sym p.len ∙ q.len in
    let blocks : i.blocks ≡ j.blocks = same_number_lists _ _ (p.eight ∙ sym q.eight) (λ k low. sym (p.blocks k (omega (arith, low, p.eight))) ∙ q.blocks k (omega (arith, low, p.eight))) in
    λ z. record { used = used z; len = len z; blocks = blocks z }

-- the words from the numbers of blocks on
inode_tail : (b c : List ℕ) (at : ℕ) (i : Inode) → IsInode b at i → IsInode c at i → (k : ℕ) → 2 ≤ k → k < 16 → word_at b (16 * at + k) ≡ word_at c (16 * at + k)
inode_tail b c at i p q k low high = elim (below_or_not k 10) [
  | inl number ↦ subst (λ m. word_at b m ≡ word_at c m) (omega arith) (p.blocks (k - 2) (omega arith) ∙ sym (q.blocks (k - 2) (omega arith)))
  | inr rest ↦ subst (λ m. word_at b m ≡ word_at c m) (omega arith) (p.zeros (k - 10) (omega arith) ∙ sym (q.zeros (k - 10) (omega arith)))
]

inode_word : (b c : List ℕ) (at : ℕ) (i : Inode) → IsInode b at i → IsInode c at i → (k : ℕ) → k < 16 → word_at b (16 * at + k) ≡ word_at c (16 * at + k)
inode_word b c at i p q zero high = subst (λ m. word_at b m ≡ word_at c m) (omega arith) (p.used ∙ sym q.used)
inode_word b c at i p q (suc zero) high = p.len ∙ sym q.len
inode_word b c at i p q (suc (suc k)) high = inode_tail b c at i p q (suc (suc k)) (omega arith) high

inode_block : (b c : List ℕ) (at : ℕ) (i : Inode) → IsInode b at i → IsInode c at i → SameWords (16 * at) (16 * at + 16) b c
inode_block b c at i p q k low high = at_place (λ m. word_at b m ≡ word_at c m) (16 * at) k low (inode_word b c at i p q (k - 16 * at) (omega arith))

used_is_bit : (x : Bool) → used_word x ≤ 1
used_is_bit true = omega arith
used_is_bit false = omega arith

inode_not_refused : (b : List ℕ) (at : ℕ) (i : Inode) → IsInode b at i → ¬ IsNoInode b at
inode_not_refused b at i p (inl used) = absurd (omega (arith, p.used, used, used_is_bit i.used))
inode_not_refused b at i p (inr (inl long)) = absurd (omega (arith, p.len, p.few, long))
inode_not_refused b at i p (inr (inr other)) = other.2 (p.zeros other.0 other.1)

pub inode_is_read_again : InodeIsReadAgain
inode_is_read_again = record { one_value = inode_value; one_block = inode_block; not_refused = inode_not_refused }

-- ## Entries of the directory

same_lead : (x y : Option ℕ) → lead_of x ≡ lead_of y → x ≡ y
same_lead None None e = refl
same_lead None (Some n) e = absurd (omega (arith, e))
same_lead (Some m) None e = absurd (omega (arith, e))
same_lead (Some m) (Some n) e = ap Some (omega (arith, e))

name_word : (b : List ℕ) (at : ℕ) (e f : DirEntry) → IsEntry b at e → IsEntry b at f → (k : ℕ) → k < 3 → slice_index e.name k ≡ slice_index f.name k
name_word b at e f p q zero low = sym p.first ∙ q.first
name_word b at e f p q (suc zero) low = sym p.second ∙ q.second
name_word b at e f p q (suc (suc zero)) low = sym p.third ∙ q.third
name_word b at e f p q (suc (suc (suc k))) low = absurd (omega (arith, low))

entry_value : (b : List ℕ) (at : ℕ) (e f : DirEntry) → IsEntry b at e → IsEntry b at f → e ≡ f
entry_value b at e f p q =
    let ino : e.ino ≡ f.ino = same_lead _ _ (sym p.lead ∙ q.lead) in
    let name : e.name ≡ f.name = same_number_lists _ _ (p.three ∙ sym q.three) (λ k low. name_word b at e f p q k (omega (arith, low, p.three))) in
    λ z. record { ino = ino z; name = name z }

entry_word : (b c : List ℕ) (at : ℕ) (e : DirEntry) → IsEntry b at e → IsEntry c at e → (k : ℕ) → k < 4 → word_at b (4 * at + k) ≡ word_at c (4 * at + k)
entry_word b c at e p q zero high = subst (λ m. word_at b m ≡ word_at c m) (omega arith) (p.lead ∙ sym q.lead)
entry_word b c at e p q (suc zero) high = p.first ∙ sym q.first
entry_word b c at e p q (suc (suc zero)) high = p.second ∙ sym q.second
entry_word b c at e p q (suc (suc (suc zero))) high = p.third ∙ sym q.third
entry_word b c at e p q (suc (suc (suc (suc k)))) high = absurd (omega (arith, high))

entry_block : (b c : List ℕ) (at : ℕ) (e : DirEntry) → IsEntry b at e → IsEntry c at e → SameWords (4 * at) (4 * at + 4) b c
entry_block b c at e p q k low high = at_place (λ m. word_at b m ≡ word_at c m) (4 * at) k low (entry_word b c at e p q (k - 4 * at) (omega arith))

entry_not_refused : (b : List ℕ) (at : ℕ) (e : DirEntry) → IsEntry b at e → ¬ IsNoEntry b at
entry_not_refused b at e p above = absurd (omega (arith, p.lead, p.few, above))

pub entry_is_read_again : EntryIsReadAgain
entry_is_read_again = record { one_value = entry_value; one_block = entry_block; not_refused = entry_not_refused }

-- ## The bitmap

pub bitmap_is_read_again : BitmapIsReadAgain
bitmap_is_read_again words marked unmarked = unmarked.2 (marked unmarked.0 unmarked.1)
