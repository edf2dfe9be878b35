-- How a search, a lock and an unlock leave a view.
use Rattle.std.proofs.Common.{◌≡◌, ℕ, ◌+◌, ◌/◌, ◌<◌, ◌≤◌, List, length, get_or, set, get_or-set_other, Bool, true, false, is_some, if◌then◌else◌, Option, None, Some, refl, sym, ap, ◌∙◌, subst, ⊎_elim, arith}
use mathlib.Core.Logic.{dite}
use native.Mathlib.Decide.{ℕ_discrete}
use Rattle.row_words.specs.declared.shape.Shape.{Shape}
use Rattle.map_model.specs.Calls.{Del, Gone, Absent}
use Rattle.map_model.specs.Maps.{Pairs, IsMap, find, without}
use Rattle.map_model.proofs.Lengths.{length_without}
use Rattle.map_model.specs.declared.refusal.Again.{Again}
use Rattle.map_model.specs.declared.refusal.Again.TheVariants.{Locked, Changed, Stale, Moved, Turn, Pinned, Bin, Filled}
use Rattle.anchor_rules.specs.Anchors.{span, target}
use Rattle.anchor_rules.proofs.Spans.{in_target}
use Rattle.leaf_spans.specs.Spread.{inside}
use Rattle.leaf_spans.proofs.Spreads.{target_live, inside_up}
use Rattle.map_model.specs.History.{after}
use Rattle.map_model.proofs.Histories.{ascending_history}
use Rattle.meta_trie.proofs.LeafRows.{live_leaf}
use Rattle.board_rule.specs.declared.view.View.{View}
use Rattle.board_rule.specs.Notes.{IsNoted}
use Rattle.board_rule.specs.Cells.{Content, Holding, shown}
use Rattle.board_rule.specs.Rule.{leaf_word}
use Rattle.board_rule.specs.Views.{held_at, has, the_holding, looked, Deed}
use Rattle.board_rule.specs.Steps.{Sat, Gives, Ends, Fresh, InSpan, HasNote, pinned_anchors, pinned_rows}
use Rattle.board_rule.proofs.Parts.{held_set}
use Rattle.leaf_versions.specs.declared.held.Held.{Held}
use Rattle.leaf_versions.specs.Holding.{IsHeld, Took, taken_out}
use Rattle.leaf_versions.specs.Refused.{IsRefused}
use Rattle.leaf_versions.proofs.Between.{took_note}
use Rattle.twin_tables.specs.Views.{OnlyPin, OnlyLooks}
use Rattle.twin_tables.specs.Pins.{Pins}
use Rattle.worm_index.specs.Idle.{IsIdle}
use Rattle.worm_index.specs.Opened.{IsInSpan}
use Rattle.index_tests.specs.Leaves.{IsPlaced, IsNotedFor, HoldsOnly}

-- a pin, a search by it, and its end
pub placed : (k : Shape) (key : List ℕ) (version leaf : ℕ) (v p q w : View) → Pins k version v p → OnlyLooks p q → w.notes ≡ q.notes → leaf ≡ target (pinned_anchors p) key → IsPlaced k key version leaf w
placed k key version leaf v p q w pins looks notes is =
    let A = pinned_anchors p in
    let lives = target_live A pins.are key in
    let low = (live_leaf k (pinned_rows p) A 0 (target A key) pins.stands.chained lives).0 in
    let here = in_target A pins.are key in
    record {
      near = omega (arith, low, is);
      anchors = A;
      noted = subst (λ l. IsNoted l version A) (sym (notes ∙ looks.notes)) pins.noted;
      inside = (here.0, ap (span A) is ∙ here.1, here.2);
    }

pub unpinned_idle : (v w : View) → OnlyPin v w → w.pin ≡ None → IsIdle v → IsIdle w
unpinned_idle v w only bare idle = record {
  free = λ i. ap (λ l. get_or l i None) only.same.held ∙ idle.free i;
  turn = only.turn ∙ idle.turn;
  pin = bare;
}

pub sought_idle : (v p q w : View) → OnlyPin v p → OnlyLooks p q → OnlyPin q w → w.pin ≡ None → IsIdle v → IsIdle w
sought_idle v p q w to looks back bare idle = record {
  free = λ i. ap (λ l. get_or l i None) (back.same.held ∙ (looks.same.held ∙ to.same.held)) ∙ idle.free i;
  turn = back.turn ∙ (looks.turn ∙ (to.turn ∙ idle.turn));
  pin = bare;
}

pub looked_idle : (v w : View) (word found : ℕ) → w ≡ looked word found v → IsIdle v → IsIdle w
looked_idle v w word found e idle = subst IsIdle (sym e) (record { free = idle.free; turn = idle.turn; pin = idle.pin })

pub refused_idle : (k : Shape) (leaf seen version : ℕ) (v w : View) (again : Again) → IsRefused k leaf seen version v w again → IsIdle v → IsIdle w
refused_idle k leaf seen version v w (Locked l holder) r idle = ⊎_elim
    (λ p. subst IsIdle (sym p.1) idle)
    (λ p. looked_idle v w (leaf_word k leaf) p.0 p.1.after idle)
    r.1
refused_idle k leaf seen version v w (Changed l b a) r idle = looked_idle v w (leaf_word k leaf) a r.2.after idle
refused_idle k leaf seen version v w (Stale l expected old) r idle = subst IsIdle (sym r.5) idle
refused_idle k leaf seen version v w (Moved first second) r idle = absurd r
refused_idle k leaf seen version v w (Turn holder) r idle = absurd r
refused_idle k leaf seen version v w (Pinned table pins) r idle = absurd r
refused_idle k leaf seen version v w (Bin holder) r idle = absurd r
refused_idle k leaf seen version v w (Filled l count hard) r idle = absurd r

-- the view before the look at the leaf's word, after it and after the lock
module _ (k : Shape) (leaf seen version lane : ℕ) (v u w : View) (held : Held) (look : u ≡ looked (leaf_word k leaf) seen v) (took : Took k leaf seen version lane u w held) where
  pub held_gives : Gives k (has w held.leaf) None held.content
  held_gives =
      let has-is : has w held.leaf ≡ taken_out (seen + lane + 1) (shown held.content) = ap (has w) took.this.0 ∙ ap the_holding took.has in
      (ap (λ (h : Holding). h.map) (sym has-is), took.salt)

  noted_on : (key : List ℕ) (place : IsPlaced k key version leaf v) → HasNote u version place.anchors
  noted_on key place = subst (λ l. IsNoted l version place.anchors) (sym (ap (λ (x : View). x.notes) look)) place.noted

  -- the content ascends as the history's map does
  pub held_few : (key : List ℕ) → IsPlaced k key version leaf v → IsMap (shown held.content) × (length (shown held.content) ≤ k.hard)
  held_few key place =
      let part : shown held.content ≡ inside (span place.anchors leaf) (after w.seen) = took.is_part version place.anchors (noted_on key place) took.known in
      (subst IsMap (sym part) (inside_up (after w.seen) (ascending_history w.seen) (span place.anchors leaf)), took.few)

  pub held_noted : (key : List ℕ) → IsPlaced k key version leaf v → IsNotedFor key w held
  held_noted key place =
      let le : held.date ≤ version = let z = took.this.1 in let y = took.known in omega arith in
      (version, place.anchors, took_note k leaf seen version lane u w held version place.anchors took (noted_on key place), le, subst (λ i. IsInSpan place.anchors i key) (sym took.this.0) place.inside)

  pub held_only : IsIdle v → HoldsOnly w held.leaf
  held_only idle = record {
    alone = λ i ne. ap (λ (x : View). get_or x.held i None) took.after ∙ (get_or-set_other u.held leaf i _ None (λ e. ne (e ∙ sym took.this.0)) ∙ (ap (λ (x : View). get_or x.held i None) look ∙ idle.free i));
    turn = ap (λ (x : View). x.turn) took.after ∙ (ap (λ (x : View). x.turn) look ∙ idle.turn);
    pin = ap (λ (x : View). x.pin) took.after ∙ (ap (λ (x : View). x.pin) look ∙ idle.pin);
  }

-- the note of a held leaf is good for a call of its key
pub fresh : (k : Shape) (key : List ℕ) (v : View) (held : Held) → IsHeld k v held → (note : IsNotedFor key v held) → (deed : Deed) → InSpan note.1 held.leaf deed → Fresh v held.leaf deed
fresh k key v held is note deed lies =
    let le : (has v held.leaf).word / 256 ≤ note.0 = let a = is.dated in let b = note.3 in omega arith in
    (note.0, note.1, note.2, le, lies)

-- after an unlock no leaf is held
module _ (k : Shape) (held : Held) (word new lane : ℕ) (m n : Sat) (only : HoldsOnly m.0 held.leaf) (is-held : IsHeld k m.0 held) where
  freed : n.0.held ≡ set m.0.held held.leaf None → (i : ℕ) → held_at n.0 i ≡ None
  freed e i = dite (ℕ_discrete i held.leaf)
      (λ (here : i ≡ held.leaf). ap (λ j. held_at n.0 j) here ∙ (ap (λ l. get_or l held.leaf None) e ∙ held_set m.0.held held.leaf (has m.0 held.leaf) None is-held.away.0))
      (λ other. ap (λ l. get_or l i None) e ∙ (get_or-set_other m.0.held held.leaf i None None other ∙ only.alone i other))

  pub ended_idle : (deed : Deed) → Ends word held.leaf new lane deed m n → IsIdle n.0
  ended_idle None e = record {
    free = freed (ap (λ (x : Sat). x.0.held) e);
    turn = ap (λ (x : Sat). x.0.turn) e ∙ only.turn;
    pin = ap (λ (x : Sat). x.0.pin) e ∙ only.pin;
  }
  ended_idle (Some d) e = record {
    free = freed (ap (λ (x : Sat). x.0.held) e.1);
    turn = ap (λ (x : Sat). x.0.turn) e.1 ∙ only.turn;
    pin = ap (λ (x : Sat). x.0.pin) e.1 ∙ only.pin;
  }

-- a key was taken out of the leaf's map
pub gives_without : (k : Shape) (h : Holding) (m : Pairs (List ℕ)) (content : Content) (key : List ℕ) (gone : Bool) → m ≡ h.map → IsMap m → length m ≤ k.hard → content.map ≡ without m key → content.salt ≡ k.salt → gone ≡ is_some (find m key)
    → Gives k h (Some (Del key, if gone then Gone else Absent)) content
gives_without k h m content key gone was up few is salt there = (
  is ∙ ap (λ l. without l key) was,
  salt,
  ap (λ b. if b then Gone else Absent) (there ∙ ap (λ l. is_some (find l key)) was),
  (let n = ap length is in let le = length_without m up key in omega arith),
)
