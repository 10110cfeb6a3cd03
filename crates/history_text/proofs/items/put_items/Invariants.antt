use Rattle.std.proofs.Common.{◌≡◌, ◌++◌, take}
use Rattle.std.specs.List.{flat_map}
use Rattle.machine_defs.specs.Texts.{spaced}
use Rattle.history_text.proofs.items.put_items.Given as goal

abbrev pub invariant-items : goal.invariant-items
invariant-items g l = l.out.items ≡ l.fn.out.items ++ flat_map (λ a. spaced (g.T.Item.text l.spellings a)) (take l.item-index l.items)
