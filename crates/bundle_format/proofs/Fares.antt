-- Texts that stand for one bundle fare the same.
use Rattle.std.proofs.Common.{◌≡◌, ℕ, inl, inr, List, sym, subst}
use Rattle.rl_defs.specs.declared.bundle.Bundle.{Bundle}
use Rattle.rl_defs.specs.declared.load.LoadRows.{LoadRows}
use Rattle.rl_defs.specs.Lines.{lines_of}
use Rattle.rl_defs.specs.Refusals.{IsFirst}
use Rattle.rl_defs.specs.BundleParts.{FailsForms, IsBundle}
use Rattle.rl_defs.specs.Acceptance.{Fails, FailsBehindForms, First, Accepted}
use Rattle.bundle_syntax.proofs.PlanLaws.{plan_forms}
use Rattle.bundle_syntax.proofs.ClientLaws.{client_forms}
use Rattle.bundle_parts.proofs.OneBundle.{one_bundle}
use Rattle.bundle_format.specs.Formatted.{Stands, FareTheSame, IsRefusedAt}

-- a text stands for one bundle
pub one : (text : List ℕ) (a b : Bundle) → IsBundle (lines_of text) a → Stands text b → a ≡ b
one text a b is s = one_bundle plan_forms client_forms (lines_of text) a b is s.bundle s.keeps

fails_too : (bytes text : List ℕ) (b : Bundle) → Stands bytes b → Stands text b → (line rule : ℕ) → Fails bytes line rule → Fails text line rule
fails_too bytes text b s t line rule (inl f) = absurd (s.keeps line rule f)
fails_too bytes text b s t line rule (inr (none, (a, is, f))) = inr (t.keeps, (b, t.bundle, subst (λ (x : Bundle). FailsBehindForms x line rule) (one bytes a b is s) f))

first_too : (bytes text : List ℕ) (b : Bundle) → Stands bytes b → Stands text b → (line rule : ℕ) → First bytes line rule → First text line rule
first_too bytes text b s t line rule h = record {
  fails = fails_too bytes text b s t line rule h.fails;
  first = λ l r f. h.first l r (fails_too text bytes b t s l r f);
}

accepted_too : (bytes text : List ℕ) (b : Bundle) → Stands bytes b → Stands text b → (L : LoadRows) → Accepted bytes L → Accepted text L
accepted_too bytes text b s t L h = record {
  keeps = λ l r f. h.keeps l r (fails_too text bytes b t s l r f);
  bundle = h.bundle;
  tables = h.tables;
  lines = subst (λ (x : Bundle). IsBundle (lines_of text) x) (sym (one bytes h.bundle b h.lines s)) t.bundle;
  rows = h.rows;
  stands = h.stands;
}

pub fare_the_same : (bytes text : List ℕ) (b : Bundle) → Stands bytes b → Stands text b → FareTheSame bytes text
fare_the_same bytes text b s t = record {
  refused = λ line rule. (first_too bytes text b s t line rule, first_too text bytes b t s line rule);
  accepted = λ L. (accepted_too bytes text b s t L, accepted_too text bytes b t s L);
}

-- what rule 1 or 2 refuses is refused so
pub refused_at : (bytes : List ℕ) (line rule : ℕ) → IsFirst (FailsForms (lines_of bytes)) line rule → IsRefusedAt bytes line rule
refused_at bytes line rule h = record {
  forms = h;
  checked = record {
    fails = inl h.fails;
    first = λ l r f. elim f [ inl a ↦ h.first l r a | inr a ↦ absurd (a.0 line rule h.fails) ];
  };
}

-- a text that rule 1 or 2 refuses stands for no bundle
pub refused_never : (text : List ℕ) (b : Bundle) (line rule : ℕ) → IsFirst (FailsForms (lines_of text)) line rule → Stands text b → ⊥
refused_never text b line rule h s = s.keeps line rule h.fails
