-- One lane's word of pins is looked at after another's, and with the last one the spare table is cleared.
use Rattle.std.proofs.Common.{◌≡◌, ◌≢◌, ℕ, ◌+◌, ◌%◌, ◌<◌, ◌≤◌, List, [], ◌∷◌, ◌++◌, length, length-append, append_assoc, append-nil, refl, sym, ap, ◌∙◌, subst, arith, Option, Some, None, true, IsSome, ⊎_elim}
use mathlib.Core.Logic.{dite}
use mathlib.Core.Option.{some, some-ne-none}
use native.Mathlib.Decide.{ℕ_discrete}
use lib.ListN.{get_elem?}
use Rattle.atomic_table.proofs.Lists.{at_snoc}
use Rattle.row_words.specs.declared.shape.Shape.{Shape}
use Rattle.row_words.specs.Layout.{word_count}
use Rattle.anchor_rules.specs.Anchors.{Anchors}
use Rattle.map_model.specs.declared.refusal.Again.{Again}
use Rattle.map_model.specs.declared.refusal.Again.TheVariants.{Pinned}
use Rattle.board_rule.specs.declared.view.View.{View}
use Rattle.board_rule.specs.Pins.{Spare}
use Rattle.board_rule.specs.Rule.{row_count}
use Rattle.board_rule.specs.Views.{pin_word, cleared}
use Rattle.board_rule.specs.Steps.{Sat, Clears as Looks, Grew, HasSpare, note_or, current, anchors_now, spare_mark}
use Rattle.board_rule.proofs.Growing.{grew_kept}
use Rattle.twin_tables.specs.Turns.{HasTurn, Lacking, Clears, SparePinned, AreFree, spare_of, sweep_looks, swept_view}

-- so many lanes were looked at, and none had pinned the spare table
pub record Sweeping (k : Shape) (version lane : ℕ) (v w : View) : Type 0 where
  pub found : List ℕ
  pub many : length found ≡ lane
  pub free : AreFree version found
  pub upto : ℕ
  pub known : 0 < lane → upto ≡ lane
  pub kept : Option Spare
  pub after : w ≡ swept_view (sweep_looks 0 found) upto kept v
  pub ahead : lane < k.lanes → (kept ≡ None) × (lane ≤ upto)
  pub done : lane ≡ k.lanes → (sp : Spare) × (kept ≡ Some sp) × Lacking k w

-- a look more
sweep_more : (l x : ℕ) (found : List ℕ) → sweep_looks l (found ++ x ∷ []) ≡ sweep_looks l found ++ (pin_word (l + length found), x) ∷ []
sweep_more l x [] = ap (λ (n : ℕ). (pin_word n, x) ∷ []) (omega arith)
sweep_more l x (y ∷ found) = ap (λ m. (pin_word l, y) ∷ m) (sweep_more (l + 1) x found ∙ ap (λ (n : ℕ). sweep_looks (l + 1) found ++ (pin_word n, x) ∷ []) (omega arith))

pub sweeping_none : (k : Shape) (version : ℕ) (v : View) → 0 < k.lanes → v.spare ≡ None → Sweeping k version 0 v v
sweeping_none k version v some-lane bare = record {
  found = [];
  many = refl;
  free = λ i x e. absurd (some-ne-none x (sym e));
  upto = v.swept;
  known = λ lt. absurd (omega arith);
  kept = v.spare;
  after = sym (ap (λ (l : List (ℕ × ℕ)). record v { looks = l }) (append-nil v.looks));
  ahead = λ _. (bare, omega arith);
  done = λ e. absurd (omega arith);
}

module _ (k : Shape) (version lane : ℕ) (v : View) (turn : HasTurn version v) (u : View) (s : Sweeping k version lane v u) where
  pub sweeping_current : u.current ≡ Some (version, anchors_now v)
  sweeping_current = ap (λ (y : View). y.current) s.after ∙ turn.1

  pub sweeping_loaded : IsSome u.current
  sweeping_loaded = subst IsSome (sym sweeping_current) refl

  pub sweeping_bare : lane < k.lanes → u.spare ≡ None
  sweeping_bare low = ap (λ (y : View). y.spare) s.after ∙ (s.ahead low).0

  pub sweeping_upto : lane < k.lanes → lane ≤ u.swept
  sweeping_upto low = omega (arith, ap (λ (y : View). y.swept) s.after, (s.ahead low).1)

  pub sweeping_mark : spare_mark u ≡ spare_of version + 1
  sweeping_mark = ap (λ c. ((note_or c).0 + 1) % 2 + 1) sweeping_current

  looks_on : (x : ℕ) → (v.looks ++ sweep_looks 0 s.found) ++ (pin_word lane, x) ∷ [] ≡ v.looks ++ (sweep_looks 0 s.found ++ (pin_word (length s.found), x) ∷ [])
  looks_on x = append_assoc v.looks (sweep_looks 0 s.found) ((pin_word lane, x) ∷ []) ∙ ap (λ (n : ℕ). v.looks ++ (sweep_looks 0 s.found ++ (pin_word n, x) ∷ [])) (sym s.many)

  looks_more : (x : ℕ) → (v.looks ++ sweep_looks 0 s.found) ++ (pin_word lane, x) ∷ [] ≡ v.looks ++ sweep_looks 0 (s.found ++ x ∷ [])
  looks_more x =
      let from : length s.found ≡ 0 + length s.found = omega arith in
      looks_on x ∙ (ap (λ (n : ℕ). v.looks ++ (sweep_looks 0 s.found ++ (pin_word n, x) ∷ [])) from ∙ ap (λ l. v.looks ++ l) (sym (sweep_more 0 x s.found)))

  module _ (m n : Sat) (is : m.0 ≡ u) (x : ℕ) (looks : Looks k lane m x n) (low : lane < k.lanes) where
    at-u : m.0 ≡ swept_view (sweep_looks 0 s.found) s.upto s.kept v
    at-u = is ∙ s.after

    mark : spare_mark m.0 ≡ spare_of version + 1
    mark = ap spare_mark is ∙ sweeping_mark

    -- the lane hasn't pinned the table
    pub sweeping_next : row_count k ≡ word_count k → x ≢ spare_of version + 1 → Sweeping k version (lane + 1) v n.0
    sweeping_next long other = dite (ℕ_discrete (lane + 1) k.lanes)
        (λ end.
        let last = looks.last (λ e. other (e ∙ mark)) end in
        let sp : Spare = looks.spare in
        let w : View = cleared (pin_word lane) x (lane + 1) sp m.0 in
        let is-w : n.0 ≡ w = ap (λ (y : Sat). y.0) last.0 in
        let cur : m.0.current ≡ Some (version, anchors_now v) = ap (λ (y : View). y.current) is ∙ sweeping_current in
        let lacking : Lacking k w = record { has = (refl, cur ∙ ap Some (sym (ap note_or cur))); wide = looks.wide ∙ long; settled = last.1; published = looks.published; fits = looks.fits } in
        record {
          found = s.found ++ x ∷ [];
          many = many;
          free = free other;
          upto = lane + 1;
          known = λ _. refl;
          kept = Some sp;
          after = is-w ∙ (ap (λ (y : View). cleared (pin_word lane) x (lane + 1) sp y) at-u ∙ ap (λ l. record v { looks = l; swept = lane + 1; spare = Some sp }) (looks_more x));
          ahead = λ lt. absurd (omega arith);
          done = λ _. (sp, refl, subst (Lacking k) (sym is-w) lacking);
        })
        (λ ne.
        let is-w = ap (λ (y : Sat). y.0) (looks.more (λ e. other (e ∙ mark)) (omega arith)) in
        record {
          found = s.found ++ x ∷ [];
          many = many;
          free = free other;
          upto = lane + 1;
          known = λ _. refl;
          kept = s.kept;
          after = is-w ∙ (ap (λ (y : View). record y { looks = y.looks ++ (pin_word lane, x) ∷ []; swept = lane + 1 }) at-u ∙ ap (λ l. record v { looks = l; swept = lane + 1; spare = s.kept }) (looks_more x));
          ahead = λ lt. ((s.ahead low).0, omega arith);
          done = λ e. absurd (ne e);
        })
      where
        many : length (s.found ++ x ∷ []) ≡ lane + 1
        many = omega (arith, length-append s.found (x ∷ []), s.many)

        free : x ≢ spare_of version + 1 → AreFree version (s.found ++ x ∷ [])
        free other i y e = ⊎_elim (λ (old : get_elem? s.found i ≡ some y). s.free i y old) (λ (same : x ≡ y). λ z. other (same ∙ z)) (at_snoc s.found x y i e)

    -- it has
    pub sweeping_pinned : v.spare ≡ None → x ≡ spare_of version + 1 → SparePinned k version (Pinned (spare_of version) 1) v n.0
    sweeping_pinned bare hit =
        let is-w = ap (λ (y : Sat). y.0) (looks.miss (hit ∙ sym mark)) in
        record {
          why = refl;
          found = s.found;
          few = omega (arith, s.many, low);
          free = s.free;
          look = is-w ∙ (ap (λ (y : View). record y { looks = y.looks ++ (pin_word lane, x) ∷ []; swept = lane }) at-u
              ∙ ((λ i. record v { looks = looks_on x i; swept = sym s.many i; spare = ((s.ahead low).0 ∙ sym bare) i })
              ∙ ap (λ (z : ℕ). swept_view (sweep_looks 0 s.found ++ (pin_word (length s.found), z) ∷ []) (length s.found) v.spare v) hit));
        }

    -- but a view that is sole and has no pin finds no pin
    pub sweeping_sole : v.sole ≡ true → v.pin ≡ None → x ≡ spare_of version + 1 → ⊥
    sweeping_sole sole bare hit = absurd (omega (arith, hit, looks.sole (ap (λ (y : View). y.sole) at-u ∙ sole) (ap (λ (y : View). y.pin) at-u ∙ bare)))

  -- all were looked at
  pub sweeping_all : 0 < k.lanes → lane ≡ k.lanes → Clears k version v u
  sweeping_all some-lane end =
      let d = s.done end in
      let upto : s.upto ≡ k.lanes = s.known (omega arith) ∙ end in
      record { kept = d.0; found = s.found; all = s.many ∙ end; free = s.free; after = s.after ∙ (λ i. swept_view (sweep_looks 0 s.found) (upto i) (d.1 i) v); lacking = d.2 }

-- such looks leave what any step leaves
pub swept_grew : (v w : View) (more : List (ℕ × ℕ)) (n : ℕ) (spare : Option Spare) → w ≡ swept_view more n spare v → Grew v w
swept_grew v w more n spare e = subst (Grew v) (sym e) (grew_kept v (swept_view more n spare v) refl refl refl (more, refl) ([], append-nil v.notes) (omega arith) (λ z. z))
