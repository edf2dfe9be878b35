-- Words stand for one list of anchors at most, which is computed from them.
use Rattle.std.proofs.Common.{◌≡◌, ◌≢◌, ℕ, zero, suc, ◌+◌, ◌-◌, ◌≤◌, List, [], ◌∷◌, length, Some, sym, ap, ◌∙◌, refl, arith, eq-eqb}
use Rattle.std.specs.Prelude.{Bool, if◌then◌else◌}
use Rattle.std.proofs.lemmas.Bool.{ne_eqb}
use Rattle.anchor_rules.specs.Anchors.{Anchors, next_anchor}
use Rattle.anchor_rules.specs.Items.{first_leaf}
use Rattle.row_words.specs.declared.shape.Shape.{Shape}
use Rattle.row_words.specs.Decode.{anchor_at, next_at}
use Rattle.meta_trie.specs.Stands.{LeafChain, StandsFor, first_link, anchors_from, anchors_of}
use Rattle.meta_trie.proofs.LeafRows.{leaves_fit}

walk_is : (k : Shape) (ws : List ℕ) (A : Anchors) (previous : ℕ) → LeafChain k ws previous A → (most link : ℕ) → link ≡ first_link A → length A ≤ most → anchors_from k ws most link ≡ A
walk_is k ws [] previous c zero link e l = refl
walk_is k ws [] previous c (suc most) link e l = ap (λ (t : Bool). if t then [] else (anchor_at k ws (link - 1), link - 1) ∷ anchors_from k ws most (next_at k ws (link - 1))) (eq-eqb link 0 e)
walk_is k ws (q ∷ A) previous c zero link e l = absurd (omega (arith, l))
walk_is k ws (q ∷ A) previous c (suc most) link e l =
    let some : link ≢ 0 = λ z. omega (arith, e, z) in
    let here : link - 1 ≡ q.1 = omega (arith, e) in
    let row : (anchor_at k ws (link - 1), link - 1) ≡ q = λ i. ((ap (anchor_at k ws) here ∙ c.1) i, here i) in
    ap (λ (t : Bool). if t then [] else (anchor_at k ws (link - 1), link - 1) ∷ anchors_from k ws most (next_at k ws (link - 1))) (ne_eqb link 0 some)
    ∙ ap (λ (r : List ℕ × ℕ). r ∷ anchors_from k ws most (next_at k ws (link - 1))) row
    ∙ ap (λ (rest : Anchors). q ∷ rest) (walk_is k ws A (q.1 + 1) c.4 most (next_at k ws (link - 1)) (ap (next_at k ws) here ∙ c.3) (omega (arith, l)))

-- the words stand for the anchors that are computed from them
pub anchors_of-is : (k : Shape) (ws : List ℕ) (A : Anchors) → StandsFor k ws A → anchors_of k ws ≡ A
anchors_of-is k ws A s = walk_is k ws A 0 s.chained k.leaves 1 (first A s.zero s.anchors.first) (leaves_fit k ws A s)
  where
    first : (B : Anchors) → first_leaf B ≡ 0 → next_anchor B ≡ Some [] → 1 ≡ first_link B
    first [] z n = absurd (cc)
    first (q ∷ B) z n = omega (arith, z)

-- and for no others
pub stands_only : (k : Shape) (ws : List ℕ) (A B : Anchors) → StandsFor k ws A → StandsFor k ws B → A ≡ B
stands_only k ws A B s t = sym (anchors_of-is k ws A s) ∙ anchors_of-is k ws B t
