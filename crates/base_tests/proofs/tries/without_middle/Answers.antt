use Rattle.std.proofs.Common.{[], ◌∷◌, sym, subst}
use Rattle.row_words.specs.declared.shape.Shape.{Shape}
use Rattle.row_words.specs.VecRows.{words_of}
use Rattle.meta_trie.specs.Stands.{StandsFor}
use Rattle.base_tests.proofs.tries.without_middle.Goals as goal

pub returns : goal.returns
returns c =
    let t = c.in_ok-rows.ensures in
    (t.1, subst (λ (k : Shape). StandsFor k (words_of c.remove_anchor.new.rows) (([], 0) ∷ (t.1, 2) ∷ [])) (sym c.remove_anchor.ensures.shape) (c.remove_anchor.ensures.removed (([], 0) ∷ (t.0, 1) ∷ (t.1, 2) ∷ []) t.2))
