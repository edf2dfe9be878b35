use Rattle.std.proofs.Common.{rules, ◌≡◌, ◌≤◌, ◌+◌, [], ◌∷◌, ◌++◌, length, ap, ◌∙◌, arith, ℕ, List}
use Rattle.map_model.specs.Maps.{Pairs}
use Rattle.map_model.specs.Pages.{Paged, cut}
use Rattle.map_model.proofs.Pages.{cut-same, ends-push, pushed-over}
use Rattle.map_model.proofs.page.Page.push.Goals as goal

pub returns-in_err-make_room-clause-err : goal.returns-in_err-make_room-clause-err
returns-in_err-make_room-clause-err c =
    let all = c.make_room.ensures in
    let same : cut c.make_room.new.bytes.items 0 c.reserve.new.self.items ≡ c.args.self.now.pairs = rw c.reserve.ensures.items (cut-same c.self.inside.bytes.items c.make_room.new.bytes.items c.self.inside.ends.items c.self.inside.used c.self.invariant.0 c.self.invariant.1 (omega (arith, all.longer, c.self.invariant.1)) all.front ∙ ap (λ (p : Paged). p.pairs) c.self.view_is) in
    search rules

pub invariant_of-self-2 : goal.invariant_of-self-2
invariant_of-self-2 c =
    let used = c.self.inside.used in
    let middle = used + length c.args.key.now in
    let now : c.push_reserved.new.self.items ≡ c.self.inside.ends.items ++ (middle, middle + length c.args.value.now) ∷ [] = search rules in (
      rw now (ends-push 0 c.self.inside.ends.items used middle (middle + length c.args.value.now) c.self.invariant.0 (omega arith) (omega arith)),
      omega (arith, c.in_ok-make_room.ensures.room, c.make_room.ensures.longer, c.put_bytes.ensures.len, c.put_bytes-2.ensures.len, c.self.invariant.1),
    )

pub returns-clause-ok : goal.returns-clause-ok
returns-clause-ok c =
    let used = c.self.inside.used in
    let key = c.args.key.now in
    let value = c.args.value.now in
    let bytes = c.make_room.new.bytes.items in
    let ends = c.self.inside.ends.items in
    let le : used ≤ length bytes = omega (arith, c.make_room.ensures.longer, c.self.invariant.1) in
    let now : c.push_reserved.new.self.items ≡ ends ++ (used + length key, used + length key + length value) ∷ [] = search rules in
    let pairs : cut bytes 0 ends ≡ c.args.self.now.pairs = cut-same c.self.inside.bytes.items bytes ends used c.self.invariant.0 c.self.invariant.1 le c.make_room.ensures.front ∙ ap (λ (p : Paged). p.pairs) c.self.view_is in
    rw now (pushed-over bytes c.put_bytes.new.bytes.items c.put_bytes-2.new.bytes.items key value ends used c.self.invariant.0 le c.put_bytes.ensures.bytes c.put_bytes-2.ensures.bytes
    ∙ ap (λ (p : Pairs (List ℕ)). p ++ (key, value) ∷ []) pairs)
