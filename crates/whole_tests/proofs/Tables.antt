-- The same table, told by other names.
use Rattle.std.proofs.Common.{◌≡◌, ℕ, List, sym, subst}
use Rattle.anchor_rules.specs.Anchors.{Anchors}
use Rattle.row_words.specs.declared.shape.Shape.{Shape}
use Rattle.meta_trie.specs.Stands.{StandsFor}

pub same_table : (k l : Shape) (v w : List ℕ) (A B : Anchors) → l ≡ k → w ≡ v → B ≡ A → StandsFor k v A → StandsFor l w B
same_table k l v w A B shape words anchors s = subst (λ (m : Shape). StandsFor m w B) (sym shape) (subst (λ (u : List ℕ). StandsFor k u B) (sym words) (subst (StandsFor k v) (sym anchors) s))
