-- Room that is reserved: for an object, and for an owner.
use Rattle.std.proofs.Common.{◌≡◌, ℕ, zero, suc, ◌+◌, ◌<◌, ◌++◌, List, [], ◌∷◌, length, replicate, Option, refl, ap, ◌∙◌, arith, length-append}
use Rattle.std.specs.Prelude.{slice_index_or}
use Rattle.machine_defs.specs.declared.values.Owner.{Owner}
use Rattle.machine_defs.specs.declared.values.Owner.TheVariants as owner
use Rattle.rref_heap.specs.Links.{FirstRows, first_in, HasFirst, Link, LinksBut, Widened}
use Rattle.rref_heap.specs.declared.store.Store.{Store}
use Rattle.rref_heap.specs.Store.{IsStore}

more_zeros : (xs : List ℕ) (k c : ℕ) → slice_index_or (xs ++ replicate k 0) c 0 ≡ slice_index_or xs c 0
more_zeros [] zero c = refl
more_zeros [] (suc k) zero = refl
more_zeros [] (suc k) (suc c) = more_zeros [] k c
more_zeros (x ∷ xs) k zero = refl
more_zeros (x ∷ xs) k (suc c) = more_zeros xs k c

first_widened : (f g : FirstRows) → Widened f.clients g.clients → Widened f.instances g.instances → (w : Owner) → first_in g w ≡ first_in f w
first_widened f g a b (owner.Client c) = ap (λ (l : List ℕ). slice_index_or l c 0) a.1 ∙ more_zeros f.clients a.0 c
first_widened f g a b (owner.Instance i) = ap (λ (l : List ℕ). slice_index_or l i 0) b.1 ∙ more_zeros f.instances b.0 i

longer : (xs ys : List ℕ) (c : ℕ) → Widened xs ys → c < length xs → c < length ys
longer xs ys c a lt = let tail : List ℕ = replicate a.0 0 in let l : length ys ≡ length xs + length tail = ap length a.1 ∙ length-append xs tail in omega (arith, l)

has_widened : (f g : FirstRows) → Widened f.clients g.clients → Widened f.instances g.instances → (w : Owner) → HasFirst f w → HasFirst g w
has_widened f g a b (owner.Client c) has = longer f.clients g.clients c a has
has_widened f g a b (owner.Instance i) has = longer f.instances g.instances i b has

links_widened : (L : ℕ → Option Link) (f g : FirstRows) → Widened f.clients g.clients → Widened f.instances g.instances → LinksBut L f 0 → LinksBut L g 0
links_widened L f g a b l = record {
  stamp = l.stamp;
  top = l.top;
  none = l.none;
  roots = λ n p is ne. (let x = l.roots n p is ne in record { low = x.low; next = x.next; prev = x.prev; first = λ z. first_widened f g a b p.owner ∙ x.first z; has = has_widened f g a b p.owner x.has });
  heads = λ w pos. (let e = first_widened f g a b w in rw e (l.heads w (omega arith)));
}

pub widened : (s : Store) (g : FirstRows) → IsStore s → Widened s.firsts.clients g.clients → Widened s.firsts.instances g.instances → IsStore (record { places = s.places; firsts = g; listing = s.listing; live = s.live })
widened s g h a b = record {
  numbered = h.numbered;
  links = links_widened _ s.firsts g a b h.links;
  nested = h.nested;
  listed = h.listed;
  count = h.count;
  room = h.room;
}
