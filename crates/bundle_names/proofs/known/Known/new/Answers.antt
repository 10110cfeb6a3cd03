use Rattle.std.proofs.Common.{◌≡◌, refl, rules}
use Rattle.bundle_names.specs.PlanNames.{known_names}
use Rattle.bundle_names.proofs.known.Known.new.Goals as goal

pub returns : goal.returns
returns c =
    let names : c.domains.inside.names.items ≡ (known_names c.args.bundle.now).domains = search rules in
    let loaded : c.loaded.inside.items.items ≡ (known_names c.args.bundle.now).loaded = search rules in
    let imports : c.in_ok-imports.imports ≡ (known_names c.args.bundle.now).imports = search rules in
    let loads : c.in_ok-load_names.field-0 ≡ (known_names c.args.bundle.now).loads = search rules in
    let targets : c.in_ok-target_names.field-0 ≡ (known_names c.args.bundle.now).targets = search rules in
    let clients : c.in_ok-client_names.field-0 ≡ (known_names c.args.bundle.now).clients = search rules in
    rw (names, loaded, imports, loads, targets, clients) refl
