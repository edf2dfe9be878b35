-- Two leaves next to one another that become one.
use Rattle.std.proofs.Common.{◌≡◌, ◌≢◌, ℕ, ◌+◌, List, [], ◌∷◌, ◌++◌, length, length-append, Bool, true, false, cond, Option, Some, None, ◌⊎◌, inl, inr, refl, sym, ap, ◌∙◌, subst}
use mathlib.Core.Logic.{dite}
use native.Mathlib.Decide.{ℕ_discrete}
use Rattle.std.specs.declared.cmp.Ordering.TheVariants.{Greater}
use Rattle.key_bytes.specs.Bound.{bound_cmp}
use Rattle.key_bytes.specs.declared.bound.Bound.TheVariants.{At}
use Rattle.anchor_rules.specs.Anchors.{Anchors, Span, in_span, next_anchor, span, Rises, AreAnchors, adjacent, with_merge}
use Rattle.anchor_rules.proofs.Spans.{disjoint, span_here, span_later}
use Rattle.anchor_rules.proofs.Edits.{merge_left, merge_right, merge_else}
use Rattle.anchor_rules.proofs.Parts.{meet, beside, span_past}
use Rattle.map_model.specs.Maps.{Pairs, IsMap, find, keep, between, sorted}
use Rattle.map_model.proofs.Finds.{find_keep, ascending_sorted, find_sorted, same_map}
use Rattle.map_model.proofs.Parts.{between_split}
use Rattle.leaf_spans.specs.Ends.{end_bound}
use Rattle.leaf_spans.specs.Spread.{Spread, inside, size_in}
use Rattle.leaf_spans.proofs.Spreads.{below_in_order, inside_up, inside_between}

-- no key is in two leaves
pub merge_apart : {V : Type 0} (A : Anchors) (m : Pairs V) (maps : ℕ → Pairs V) (l r : ℕ) → AreAnchors A → Spread A m maps → l ≢ r → (key : List ℕ) → (find (maps l) key ≡ None) ⊎ (find (maps r) key ≡ None)
merge_apart {V} A m maps l r are spread apart key =
    subst (λ (p : Pairs V). (find p key ≡ None) ⊎ (find (maps r) key ≡ None)) (sym (spread.parts l)) (subst (λ (p : Pairs V). (find (inside (span A l) m) key ≡ None) ⊎ (find p key ≡ None)) (sym (spread.parts r)) (by (span A l) (span A r) refl refl))
  where
    fails : (s : Span) → in_span s key ≡ false → find (keep (in_span s) m) key ≡ None
    fails s e = find_keep (in_span s) m key ∙ ap (λ b. cond b (find m key) None) e

    sides : (s t : Span) → span A l ≡ Some s → span A r ≡ Some t → (a b : Bool) → in_span s key ≡ a → in_span t key ≡ b → (find (keep (in_span s) m) key ≡ None) ⊎ (find (keep (in_span t) m) key ≡ None)
    sides s t e f true true p q = absurd (apart (disjoint A are l r key s t e f p q))
    sides s t e f true false p q = inr (fails t q)
    sides s t e f false b p q = inl (fails s p)

    by : (o p : Option Span) → span A l ≡ o → span A r ≡ p → (find (inside o m) key ≡ None) ⊎ (find (inside p m) key ≡ None)
    by None p e f = inl refl
    by (Some s) None e f = inr refl
    by (Some s) (Some t) e f = sides s t e f (in_span s key) (in_span t key) refl refl

rises_behind : (front back : Anchors) → Rises (front ++ back) → Rises back
rises_behind [] back rises = rises
rises_behind (x ∷ front) back rises = rises_behind front back rises.2

end_in_order : (x : List ℕ × ℕ) (xs : Anchors) → Rises (x ∷ xs) → bound_cmp (At x.0) (end_bound (next_anchor xs)) ≢ Greater
end_in_order x [] rises = λ e. absurd (cc (e))
end_in_order x (y ∷ ys) rises = below_in_order x.0 y.0 rises.0.0

-- two spans that meet are one, in order
module _ {V : Type 0} (A : Anchors) (m : Pairs V) (l r : ℕ) (rises : Rises A) (up : IsMap m) (next : adjacent A l r ≡ true) where
  -- the pairs of both are those of the left leaf without the right one's anchor
  pub merge_pairs : inside (span (with_merge A r) l) m ≡ inside (span A l) m ++ inside (span A r) m
  merge_pairs =
      let w = beside A l r rises next in
      let left_span : span A l ≡ Some (w.left, Some w.right) = ap (λ zs. span zs l) w.whole ∙ (span_past w.front ((w.left, l) ∷ (w.right, r) ∷ w.back) l w.front_left ∙ span_here (w.left, l) ((w.right, r) ∷ w.back) l refl) in
      let right_span : span A r ≡ Some (w.right, next_anchor w.back) = ap (λ zs. span zs r) w.whole ∙ (span_past w.front ((w.left, l) ∷ (w.right, r) ∷ w.back) r w.front_right
      ∙ (span_later (w.left, l) ((w.right, r) ∷ w.back) r w.apart ∙ span_here (w.right, r) w.back r refl)) in
      let rest : Rises ((w.left, l) ∷ (w.right, r) ∷ w.back) = rises_behind w.front ((w.left, l) ∷ (w.right, r) ∷ w.back) (subst Rises w.whole rises) in
      let both : between m (At w.left) (At w.right) ++ between m (At w.right) (end_bound (next_anchor w.back)) ≡ between m (At w.left) (end_bound (next_anchor w.back)) =
      between_split m up (At w.left) (At w.right) (end_bound (next_anchor w.back)) (end_in_order (w.left, l) ((w.right, r) ∷ w.back) rest) (end_in_order (w.right, r) w.back rest.2) in
      let left : inside (span A l) m ≡ between m (At w.left) (At w.right) = ap (λ o. inside o m) left_span ∙ inside_between m w.left (Some w.right) in
      let right : inside (span A r) m ≡ between m (At w.right) (end_bound (next_anchor w.back)) = ap (λ o. inside o m) right_span ∙ inside_between m w.right (next_anchor w.back) in
      let merged : inside (span (with_merge A r) l) m ≡ between m (At w.left) (end_bound (next_anchor w.back)) =
      ap (λ o. inside o m) (merge_left l r w.apart w.left w.right (next_anchor w.back) A rises left_span right_span) ∙ inside_between m w.left (next_anchor w.back) in
      merged ∙ (sym both ∙ (ap (λ (p : Pairs V). p ++ between m (At w.right) (end_bound (next_anchor w.back))) (sym left) ∙ ap (λ (p : Pairs V). inside (span A l) m ++ p) (sym right)))

  pub merge_emptied : inside (span (with_merge A r) r) m ≡ []
  merge_emptied = ap (λ o. inside o m) (merge_right A r rises)

  pub merge_other : (other : ℕ) → other ≢ l → other ≢ r → inside (span (with_merge A r) other) m ≡ inside (span A other) m
  merge_other other nl nr =
      let t = meet A l r rises next in
      ap (λ o. inside o m) (merge_else l r t.apart t.low t.middle t.high A other rises t.left t.right nl nr)

  -- one behind the other they ascend
  pub merge_ascends : IsMap (inside (span A l) m ++ inside (span A r) m)
  merge_ascends = subst IsMap merge_pairs (inside_up m up (span (with_merge A r) l))

  -- their sizes
  pub merge_size : size_in (with_merge A r) m l ≡ size_in A m l + size_in A m r
  merge_size = ap length merge_pairs ∙ length-append (inside (span A l) m) (inside (span A r) m)

  pub merge_size_emptied : size_in (with_merge A r) m r ≡ 0
  merge_size_emptied = ap length merge_emptied

  pub merge_size_other : (other : ℕ) → other ≢ l → other ≢ r → size_in (with_merge A r) m other ≡ size_in A m other
  merge_size_other other nl nr = ap length (merge_other other nl nr)

-- the pairs of two neighbours, one behind the other, are in order
module _ {V : Type 0} (A : Anchors) (m : Pairs V) (maps : ℕ → Pairs V) (l r : ℕ) (rises : Rises A) (spread : Spread A m maps) (next : adjacent A l r ≡ true) where
  pub joined_ascends : IsMap (maps l ++ maps r)
  joined_ascends = subst (λ (p : Pairs V). IsMap (p ++ maps r)) (sym (spread.parts l)) (subst (λ (p : Pairs V). IsMap (inside (span A l) m ++ p)) (sym (spread.parts r)) (merge_ascends A m l r rises spread.ascends next))

  pub merge_sorted : sorted (maps l ++ maps r) ≡ maps l ++ maps r
  merge_sorted = same_map (sorted (maps l ++ maps r)) (maps l ++ maps r) (ascending_sorted (maps l ++ maps r)) joined_ascends (λ key. find_sorted (maps l ++ maps r) key)

  -- a leaf takes the pairs of the next one, which isn't among the anchors any more
  pub spread_merge : (new : ℕ → Pairs V) → new l ≡ maps l ++ maps r → new r ≡ [] → ((other : ℕ) → other ≢ l → other ≢ r → new other ≡ maps other) → Spread (with_merge A r) m new
  spread_merge new taken emptied others =
      let left : new l ≡ inside (span (with_merge A r) l) m = taken ∙ (ap (λ (p : Pairs V). p ++ maps r) (spread.parts l) ∙ (ap (λ (p : Pairs V). inside (span A l) m ++ p) (spread.parts r) ∙ sym (merge_pairs A m l r rises spread.ascends next))) in
      let right : new r ≡ inside (span (with_merge A r) r) m = emptied ∙ sym (merge_emptied A m l r rises spread.ascends next) in
      record {
        ascends = spread.ascends;
        parts = λ i. dite (ℕ_discrete i l)
            (λ same. subst (λ j. new j ≡ inside (span (with_merge A r) j) m) (sym same) left)
            (λ nl. dite (ℕ_discrete i r)
            (λ same. subst (λ j. new j ≡ inside (span (with_merge A r) j) m) (sym same) right)
            (λ nr. others i nl nr ∙ (spread.parts i ∙ sym (merge_other A m l r rises spread.ascends next i nl nr))));
      }
