use Rattle.std.proofs.Common.{[], ◌∷◌, sym, subst}
use Rattle.row_words.specs.declared.shape.Shape.{Shape}
use Rattle.row_words.specs.VecRows.{words_of}
use Rattle.meta_trie.specs.Stands.{StandsFor}
use Rattle.base_tests.proofs.tries.knows_the_empty_anchor.Goals as goal

pub known-empty-requires : goal.known-empty-requires
known-empty-requires c =
    let t = c.in_ok-rows.ensures in
    (([], 0) ∷ [], subst (λ (k : Shape). StandsFor k (words_of c.remove_anchor.new.rows) (([], 0) ∷ [])) (sym c.remove_anchor.ensures.shape) (c.remove_anchor.ensures.removed (([], 0) ∷ (t.0, 2) ∷ []) t.1))
