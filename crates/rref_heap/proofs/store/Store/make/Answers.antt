use Rattle.std.proofs.Common.{◌≡◌, ℕ, ◌+◌, ◌++◌, ◌∷◌, [], length, map, Some, ◌∙◌, refl, false, ap}
use Rattle.machine_defs.specs.State.{Root}
use Rattle.rref_heap.specs.Links.{first_in, with_first}
use Rattle.rref_heap.specs.Spots.{Spot, Spots, PlacesValue, on_spot, to_prev}
use Rattle.rref_heap.proofs.Making.{made}
use Rattle.rref_heap.proofs.store.Store.make.Goals as goal

pub returns-clause-made : goal.returns-clause-made
returns-clause-made c =
    let spot : ℕ → ℕ → ℕ → Spot = λ n next count. record { number = n + 1; ty = c.args.ty; placement = Root c.args.owner; loans = count; leaves = false; cells = c.args.cells.items; below = c.args.below.items; next = next; prev = 0 } in
    let shape : ℕ → ℕ → ℕ → Spots = λ n next count. map (on_spot next (to_prev (n + 1))) (c.args.self.now.places.spots ++ Some (spot n next count) ∷ []) in
    let old : ℕ = length c.args.self.now.places.spots in
    let m : ℕ = first_in c.args.self.now.firsts c.args.owner in
    let e1 : c.len.result ≡ old = c.len.ensures in
    let e2 : c.get-next.result ≡ m = c.get-next.ensures in
    let a : c.set_prev.new.self.spots ≡ shape c.len.result c.get-next.result c.new.result.count = ap (λ (v : PlacesValue). v.spots) c.set_prev.ensures ∙ ap (λ (y : Spots). map (on_spot c.get-next.result (to_prev (c.len.result + 1))) y) c.push.ensures in
    let b : shape c.len.result c.get-next.result c.new.result.count ≡ shape old m 0 = ap (λ (k : ℕ). shape k c.get-next.result c.new.result.count) e1 ∙ (ap (λ (k : ℕ). shape old k c.new.result.count) e2 ∙ ap (λ (k : ℕ). shape old m k) c.new.ensures.count) in
    made c.args.self.now _ (old + 1) c.args.ty c.args.owner c.args.cells.items c.args.below.items c.requires.store refl c.requires.has c.requires.number c.requires.empty c.requires.wide (a ∙ b) (c.set.ensures ∙ ap (λ (k : ℕ). with_first c.args.self.now.firsts c.args.owner (k + 1)) e1) refl refl
