use Rattle.std.proofs.Common.{◌≡◌, ℕ, List, sym, ap, ◌∙◌, subst}
use Rattle.row_words.specs.declared.shape.Shape.{Shape}
use Rattle.row_words.specs.Decode.{item_at}
use Rattle.prefix_search.specs.Search.{IsLongestOf}
use Rattle.prefix_search.proofs.longests.longest.Goals as goal

pub returns-clause-longest : goal.returns-clause-longest
returns-clause-longest g c = λ A s.
    let shape = c.reach-reached.ensures.shape in
    let words = c.reach-reached.ensures.words in
    let longest = rw c.bytes.ensures.bytes at c.reach-reached.ensures.longest in
    let is = c.item-item.ensures.value ∙ ap (λ (z : Shape × List ℕ). item_at z.0 z.1 c.reach-reached.result.at) (λ i. (shape i, words i)) in
    subst (IsLongestOf A c.args.key.now c.reach-reached.result.len) (sym is) (longest A s)
