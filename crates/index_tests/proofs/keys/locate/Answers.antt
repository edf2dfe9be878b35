use Rattle.std.proofs.Common.{rules, ◌≡◌, sym, ◌∙◌, subst}
use Rattle.board_rule.specs.Passes.{view}
use Rattle.twin_tables.specs.Pins.{Pins}
use Rattle.index_tests.specs.Leaves.{IsPlaced}
use Rattle.index_tests.proofs.Leaves.{placed}
use Rattle.index_tests.proofs.keys.locate.Goals as goal

pub returns-clause-placed : goal.returns-clause-placed
returns-clause-placed g c =
    let k = c.args.board.now.shape in
    let v = view c.args.pass.now in
    let p = view c.in_ok-pinned.pinned.pass.now in
    let q = view c.seek_pinned-sought.new.pinned.pass.now in
    let version : c.in_ok-pinned.pinned.version ≡ c.version-version.result = sym (c.version-version.ensures ∙ c.in_ok-pinned.pinned.version_is) in
    let pins : Pins k c.version-version.result v p = subst (λ n. Pins k n v p) version c.in_ok-pinned.ensures.pinned in
    let last : view c.unpin.result.now ≡ view c.pass-2-1.given.0 = search rules in
    subst (IsPlaced k c.args.key.now c.version-version.result c.seek_pinned-sought.result.leaf) last
    (placed k c.args.key.now c.version-version.result c.seek_pinned-sought.result.leaf v p q (view c.unpin.result.now) pins c.seek_pinned-sought.ensures.stays.only c.unpin.ensures.notes c.seek_pinned-sought.ensures.leaf)
