use Rattle.std.proofs.Common.{◌≡◌, ◌∙◌, List, ap, sym, refl, true, true≢false, length, arith}
use Rattle.std.proofs.lemmas.Bool.{and_left, and_right}
use Rattle.rl_defs.specs.declared.load.LoadRows.{LoadRows}
use Rattle.rl_defs.specs.declared.load.LoadRow.{LoadRow}
use Rattle.rl_defs.specs.Domains.{domain_of, is_native}
use Rattle.machine_steps.proofs.CodeAlone.{is_loaded, none_native, one_native, domain_at_place, none_further}
use Rattle.machine_steps.proofs.start.is_code_alone.Goals as goal
use Rattle.machine_steps.proofs.start.is_code_alone.Goals.{else-is_loaded-via-then-is_loaded+else-is_native, else-is_loaded-via-else-is_loaded}

pub returns-then-is_native : goal.returns-then-is_native
returns-then-is_native c =
    let L = c.args.load.now in
    let domains = c.as_slice-domains.ensures ∙ ap (λ (rows : LoadRows). rows.domains) c.rows-rows.ensures.value in
    let lines = domain_at_place L c.as_slice-domains.result.now c.domains.place c.index-domains-place.result domains c.domains-test.true c.index-domains-place.is in
    let loaded : is_loaded L.loads c.domains.place ≡ true = sym (c.is_loaded.ensures ∙ ap (λ (loads : List LoadRow). is_loaded loads c.domains.place) (c.as_slice.ensures ∙ ap (λ (rows : LoadRows). rows.loads) c.rows-rows.ensures.value)) ∙ c.if-is_loaded.true in
    (λ e. absurd (true≢false (sym e)), λ alone. absurd (one_native L c.domains.place loaded (ap is_native (lines ∙ sym c.lines.ensures.value) ∙ (sym c.is_native.ensures ∙ c.if-is_native.true)) alone))

pub domains-preserved : goal.domains-preserved
domains-preserved c = none_further c.args.load.now c.domains.place c.domains.invariant (elim c.else-is_loaded.branch [
  | else-is_loaded-via-then-is_loaded+else-is_native w ↦
      (let domains = c.as_slice-domains.ensures ∙ ap (λ (rows : LoadRows). rows.domains) c.rows-rows.ensures.value in
      let lines = domain_at_place c.args.load.now c.as_slice-domains.result.now c.domains.place w.index-domains-place.result domains c.domains-test.true w.index-domains-place.is in
      and_right (is_loaded c.args.load.now.loads c.domains.place) (is_native (domain_of c.args.load.now c.domains.place)) (ap is_native (lines ∙ sym w.lines.ensures.value) ∙ (sym w.is_native.ensures ∙ w.if-is_native.false)))
  | else-is_loaded-via-else-is_loaded w ↦
      (let loads = c.as_slice.ensures ∙ ap (λ (rows : LoadRows). rows.loads) c.rows-rows.ensures.value in
      and_left (is_loaded c.args.load.now.loads c.domains.place) (is_native (domain_of c.args.load.now c.domains.place)) (sym (c.is_loaded.ensures ∙ ap (λ (loads : List LoadRow). is_loaded loads c.domains.place) loads) ∙ w.if-is_loaded.false))
])

pub returns : goal.returns
returns c =
    let count : length c.as_slice-domains.result.now ≡ length c.args.load.now.domains = ap length c.as_slice-domains.ensures ∙ ap (λ (rows : LoadRows). length rows.domains) c.rows-rows.ensures.value in
    (λ e. none_native c.args.load.now (λ d lt. c.domains.invariant d (omega (arith, count, lt, c.domains-test.false))), λ alone. refl)
