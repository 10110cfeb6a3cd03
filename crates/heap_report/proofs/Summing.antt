-- Counts of one entry more.
use Rattle.std.proofs.Common.{◌≡◌, ℕ, ◌+◌, ◌<◌, ◌++◌, List, [], ◌∷◌, length, take, get_or, filter, sym, ap, ◌∙◌, length-append}
use Rattle.std.specs.List.{filter_map, flat_map}
use Rattle.std.proofs.lemmas.List.{take_more}
use Rattle.std.proofs.lemmas.List.Elements.{filter-append, filter_map-append}
use Rattle.std.proofs.lemmas.Grind.{flat_map-append}
use Rattle.machine_defs.specs.declared.entry.Entry.{Entry}
use Rattle.machine_defs.specs.Report.{enters, fails, maker_at, frees_at}
use Rattle.heap_report.specs.declared.summary.Counts.{Counts}
use Rattle.heap_report.specs.Summed.{counts_of, plus}

counts_append : (G H : List Entry) → counts_of (G ++ H) ≡ plus (counts_of G) (counts_of H)
counts_append G H =
    let c : length (filter enters (G ++ H)) ≡ length (filter enters G) + length (filter enters H) = ap length (filter-append enters G H) ∙ length-append (filter enters G) (filter enters H) in
    let e : length (filter fails (G ++ H)) ≡ length (filter fails G) + length (filter fails H) = ap length (filter-append fails G H) ∙ length-append (filter fails G) (filter fails H) in
    let m : length (filter_map maker_at (G ++ H)) ≡ length (filter_map maker_at G) + length (filter_map maker_at H) = ap length (filter_map-append maker_at G H) ∙ length-append (filter_map maker_at G) (filter_map maker_at H) in
    let f : length (flat_map frees_at (G ++ H)) ≡ length (flat_map frees_at G) + length (flat_map frees_at H) = ap length (flat_map-append frees_at G H) ∙ length-append (flat_map frees_at G) (flat_map frees_at H) in
    cc

pub counts_more : (H : List Entry) (i : ℕ) (e : Entry) (a b : Counts) → i < length H → e ≡ get_or H i e → a ≡ counts_of (take i H) → b ≡ plus a (counts_of (e ∷ [])) → b ≡ counts_of (take (i + 1) H)
counts_more H i e a b within is so more =
    more ∙ (ap (λ (x : Counts). plus x (counts_of (e ∷ []))) so ∙ (ap (λ (x : Entry). plus (counts_of (take i H)) (counts_of (x ∷ []))) is ∙ sym (ap counts_of (take_more H i e within) ∙ counts_append (take i H) (get_or H i e ∷ []))))
