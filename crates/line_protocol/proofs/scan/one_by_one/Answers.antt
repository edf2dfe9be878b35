use Rattle.std.proofs.Common.{◌≡◌, ◌||◌, false, refl, subst, rules}
use Rattle.std.specs.List.{list_any}
use Rattle.std.proofs.lemmas.Fn.{fold_over, fronts, slice_gives}
use Rattle.line_protocol.specs.Escape.{is_sought}
use Rattle.line_protocol.proofs.Sought.{sought_push}
use Rattle.line_protocol.proofs.scan.one_by_one.Goals as goal

pub returns : goal.returns
returns c =
    let p = is_sought c.args.sought in
    let same : c.iter.result.rest.now ≡ c.args.bytes.now = search rules in
    subst (λ bytes. c.fold.result ≡ list_any p bytes) same
    (fold_over fronts _ _ (λ ys any. any ≡ list_any p ys) _ (λ ys any x next f kept call. (sought_push p ys x.now any next kept (let more : next ≡ (any || p x.now) = search rules in more), search rules)) c.iter.result c.iter.result.rest.now false c.fold.result (slice_gives c.iter.result) refl c.fold.ensures.ran)
