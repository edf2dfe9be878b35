-- From the views between the steps of a call to what the call tells.
use Rattle.std.proofs.Common.{◌≡◌, ℕ, ◌+◌, ◌/◌, ◌%◌, ◌<◌, ◌≤◌, List, [], ◌∷◌, ◌++◌, length, set, Option, Some, None, sym, refl, ap, ◌∙◌, subst, inl, ⊎_elim, arith}
use mathlib.Core.Option.{some}
use lib.ListN.{get_elem?}
use Rattle.atomic_table.proofs.Lists.{at_last, at_snoc}
use Rattle.row_words.specs.declared.shape.Shape.{Shape}
use Rattle.map_model.specs.History.{Entry, after as history_map}
use Rattle.anchor_rules.specs.Anchors.{Anchors, span}
use Rattle.leaf_spans.specs.Spread.{inside}
use Rattle.board_rule.specs.declared.view.View.{View}
use Rattle.board_rule.specs.Notes.{IsNoted}
use Rattle.board_rule.specs.Cells.{Content, shown, Holding, Spot, at_home, away}
use Rattle.board_rule.specs.Rule.{leaf_word}
use Rattle.board_rule.specs.Views.{VERSION, looked, held_at, holding, spotted, worded, has, the_holding, content, content_of, HasInside, HasAway, newly_held, locked, raised, given_back, unlocked, Deed, entry}
use Rattle.board_rule.specs.Steps.{Sat, Sees, Knew, FindsLeaf, Ties, Locked, Gives, Entered, Ends, HasNote, Fresh}
use Rattle.board_rule.proofs.Parts.{held_set, set_twice}
use Rattle.leaf_versions.specs.declared.held.Held.{Held}
use Rattle.leaf_versions.specs.Holding.{IsHeld, taken_out, held_out, Took}
use Rattle.leaf_versions.specs.Refused.{StillSeen}

-- the leaf as its holder's view has it
pub has_is : (v : View) (leaf : ℕ) (h : Holding) → held_at v leaf ≡ Some h → (held_at v leaf ≡ Some (has v leaf)) × (has v leaf ≡ h)
has_is v leaf h e = let is : has v leaf ≡ h = ap the_holding e in (e ∙ ap Some (sym is), is)

-- after a move of its content
pub moved_is : (v w : View) (leaf : ℕ) (h : Holding) (spot : Spot) → held_at v leaf ≡ Some h → w ≡ holding leaf (Some (spotted spot (has v leaf))) v → held_at w leaf ≡ Some (spotted spot h)
moved_is v w leaf h spot e is = ap (λ x. held_at x leaf) is ∙ (held_set v.held leaf h (Some (spotted spot (has v leaf))) e ∙ ap (λ x. Some (spotted spot x)) (ap the_holding e))

-- right after a look at a leaf's word the view bears it out
pub still_seen : (k : Shape) (leaf word seen : ℕ) (v w : View) → leaf < k.leaves → word ≡ leaf_word k leaf → w ≡ looked word seen v → Ties k word v seen → StillSeen k leaf w seen
still_seen k leaf word seen v w near is after ties = subst (λ u. StillSeen k leaf u seen) (sym (after ∙ ap (λ i. looked i seen v) is)) record {
  look = (length v.looks, at_last v.looks (place, seen) (length v.looks) refl);
  knew = subst (λ i. Knew i v seen) is ties.knew;
  finds = record {
    other = finds.other;
    sole = finds.sole;
    dated = finds.dated;
    aged = λ x before e. ⊎_elim
        (λ (old : get_elem? v.looks x ≡ some (place, before)). finds.aged x before old)
        (λ (new : (place, seen) ≡ (place, before)). let z = ap (λ (a : ℕ × ℕ). a.1 / 256) new in omega arith)
        (at_snoc v.looks (place, seen) (place, before) x e);
    since = λ x y version before lt e f. ⊎_elim
        (λ (old : get_elem? v.looks y ≡ some (place, before)). ⊎_elim
        (λ (first : get_elem? v.looks x ≡ some (VERSION, version)). finds.since x y version before lt first old)
        (λ (new : (place, seen) ≡ (VERSION, version)). let z = ap (λ (a : ℕ × ℕ). a.0) new in absurd (omega arith))
        (at_snoc v.looks (place, seen) (VERSION, version) x e))
        (λ (new : (place, seen) ≡ (place, before)). inl (ap (λ (a : ℕ × ℕ). a.1 / 256) new))
        (at_snoc v.looks (place, seen) (place, before) y f);
  };
}
  where
    place : ℕ
    place = leaf_word k leaf

    finds : FindsLeaf place leaf v seen
    finds = subst (λ i. FindsLeaf i leaf v seen) is (ties.leaf leaf near is)

-- a leaf that was locked, and whose content was moved out
pub taken : (leaf word before lane : ℕ) (m : Content) (log : List Entry) (v b w : View) → b ≡ locked word leaf before lane m log v → held_at b leaf ≡ Some (newly_held before lane m) → w ≡ holding leaf (Some (spotted away (has b leaf))) b
    → w ≡ held_out word leaf before lane (shown m) log v
taken leaf word before lane m log v b w b-is e is =
    let this : has b leaf ≡ newly_held before lane m = ap the_holding e in
    is ∙ ((λ i. holding leaf (Some (spotted away (this i))) (b-is i)) ∙ ap (λ l. record (locked word leaf before lane m log v) { held = l }) (set_twice v.held leaf (Some (newly_held before lane m)) (Some (taken_out (before + lane + 1) (shown m)))))

pub took : (k : Shape) (leaf seen searched lane : ℕ) (m n : Sat) (w : View) (held : Held) → leaf < k.leaves → lane < 64 → seen % 256 ≡ 0 → seen / 256 ≤ searched → Locked k (leaf_word k leaf) leaf seen lane m n
    → w ≡ holding leaf (Some (spotted away (has n.0 leaf))) n.0 → held.leaf ≡ leaf → held.date ≡ seen / 256 → held.content ≡ content n.0 leaf → Took k leaf seen searched lane m.0 w held
took k leaf seen searched lane m n w held near small free known hit out leaf-is date-is content-is =
    let after = taken leaf (leaf_word k leaf) seen lane hit.content hit.log m.0 n.0 w (ap (λ x. x.0) hit.after) hit.has out in
    let saw : w.seen ≡ hit.log = ap (λ (x : View). x.seen) after in
    let now : held_at w leaf ≡ Some (taken_out (seen + lane + 1) (shown hit.content)) = moved_is n.0 w leaf (newly_held seen lane hit.content) away hit.has out in
    let same : held.content ≡ hit.content = content-is ∙ ap (λ h. content_of (the_holding h).spot) hit.has in
    let held-now : held_at w held.leaf ≡ Some (taken_out (seen + lane + 1) (shown hit.content)) = ap (held_at w) leaf-is ∙ now in
    let t = has_is w held.leaf (taken_out (seen + lane + 1) (shown hit.content)) held-now in
    record {
      free = free;
      known = known;
      this = (leaf-is, date-is);
      sees = subst (Sees m.0) (sym saw) hit.sees;
      after = after ∙ (λ i. held_out (leaf_word k leaf) leaf seen lane (shown (sym same i)) (sym saw i) m.0);
      has = now ∙ ap (λ c. Some (taken_out (seen + lane + 1) (shown c))) (sym same);
      is_held = record {
        near = omega arith;
        away = (t.0, ap (λ (h : Holding). h.spot) t.1);
        dated = let z = ap (λ (h : Holding). h.word / 256) t.1 in omega arith;
      };
      is_part = λ n A noted le. ap shown same ∙ (hit.is_part n A noted le ∙ (λ i. inside (span A leaf) (history_map (sym saw i))));
      one_span = hit.one_span;
      few = let z = hit.few in let y = ap (λ c. length (shown c)) same in omega arith;
      salt = ap (λ (c : Content). c.salt) same ∙ hit.salt;
    }

-- a lock leaves all notes
pub took_note : (k : Shape) (leaf seen searched lane : ℕ) (v w : View) (held : Held) (n : ℕ) (A : Anchors) → Took k leaf seen searched lane v w held → HasNote v n A → HasNote w n A
took_note k leaf seen searched lane v w held n A t noted = subst (λ l. IsNoted l n A) (sym (ap (λ (x : View). x.notes) t.after)) noted

-- a content that was moved in stands for what it did outside
pub inside_is : (v w : View) (leaf : ℕ) (m : Content) → HasAway v leaf → w ≡ holding leaf (Some (spotted (at_home m) (has v leaf))) v → HasInside w leaf × (has w leaf ≡ spotted (at_home m) (has v leaf)) × (content w leaf ≡ m)
inside_is v w leaf m away-is is =
    let now : held_at w leaf ≡ Some (spotted (at_home m) (has v leaf)) = moved_is v w leaf (has v leaf) (at_home m) away-is.0 is in
    let t = has_is w leaf (spotted (at_home m) (has v leaf)) now in
    let spot : (has w leaf).spot ≡ at_home m = ap (λ (h : Holding). h.spot) t.1 in
    let c : content w leaf ≡ m = ap content_of spot in
    ((t.0, spot ∙ ap at_home (sym c)), t.1, c)

gives_spotted : (k : Shape) (h : Holding) (spot : Spot) (deed : Deed) (m : Content) → Gives k h deed m → Gives k (spotted spot h) deed m
gives_spotted k h spot None m g = g
gives_spotted k h spot (Some d) m g = g

pub gives_in : (k : Shape) (v w : View) (leaf : ℕ) (m : Content) (deed : Deed) → has w leaf ≡ spotted (at_home m) (has v leaf) → content w leaf ≡ m → Gives k (has v leaf) deed m → Gives k (has w leaf) deed (content w leaf)
gives_in k v w leaf m deed has-is content-is g = subst (λ (z : Holding × Content). Gives k z.0 deed z.1) (λ i. (sym has-is i, sym content-is i)) (gives_spotted k (has v leaf) (at_home m) deed m g)

pub fresh_in : (v w : View) (leaf : ℕ) (m : Content) (deed : Deed) → w ≡ holding leaf (Some (spotted (at_home m) (has v leaf))) v → has w leaf ≡ spotted (at_home m) (has v leaf) → Fresh v leaf deed → Fresh w leaf deed
fresh_in v w leaf m deed is has-is f =
    let notes : w.notes ≡ v.notes = ap (λ (x : View). x.notes) is in
    let word : (has w leaf).word ≡ (has v leaf).word = ap (λ (h : Holding). h.word) has-is in
    (f.0, f.1, subst (λ l. IsNoted l f.0 f.1) (sym notes) f.2, (let z = f.3 in let y = ap (λ (x : ℕ). x / 256) word in omega arith), f.4)

-- a leaf that is given back, as by a view whose content of it is still out
pub ends_in : (word leaf new lane : ℕ) (deed : Deed) (x : Option Holding) (m n o : Sat) → n.0 ≡ holding leaf x m.0 → n.1 ≡ m.1 → Ends word leaf new lane deed n o → Ends word leaf new lane deed m o
ends_in word leaf new lane None x m n o is places e = e ∙ (λ i. (given_back word leaf new (is i), places i)) ∙ ap (λ l. (record m.0 { held = l; words = set m.0.words word new }, m.1)) (set_twice m.0.held leaf x None)
ends_in word leaf new lane (Some d) x m n o is places e =
    let entered : Entered lane d (holding leaf x m.0) e.0 = subst (λ v. Entered lane d v e.0) is e.2 in
    let sees = entered.sees in (
      e.0,
      e.1 ∙ ((λ i. (unlocked word leaf new (e.0 ++ entry lane (is i) d ∷ []) (is i), places i)) ∙ ap (λ l. (record m.0 { held = l; seen = e.0 ++ entry lane m.0 d ∷ []; met = []; words = set m.0.words word new }, m.1)) (set_twice m.0.held leaf x None)),
      record {
        sees = record { begins = sees.begins; legal = sees.legal; numbered = sees.numbered; own_kept = sees.own_kept; own_ended = sees.own_ended; sole = sees.sole };
        legal = entered.legal;
        numbered = entered.numbered;
        own_ended = entered.own_ended;
      },
    )

-- a held leaf that was raised
pub raised_held : (k : Shape) (v w : View) (place word version : ℕ) (old new : Held) → IsHeld k v old → w ≡ raised place old.leaf word (has v old.leaf) v → word / 256 ≡ version → new.leaf ≡ old.leaf → new.date ≡ version → IsHeld k w new
raised_held k v w place word version old new h is date leaf-is date-is =
    let now : held_at w old.leaf ≡ Some (worded word (has v old.leaf)) = ap (λ x. held_at x old.leaf) is ∙ held_set v.held old.leaf (has v old.leaf) (Some (worded word (has v old.leaf))) h.away.0 in
    let t = has_is w new.leaf (worded word (has v old.leaf)) (ap (held_at w) leaf-is ∙ now) in
    record {
      near = let z = h.near in omega arith;
      away = (t.0, ap (λ (g : Holding). g.spot) t.1 ∙ h.away.1);
      dated = let z = ap (λ (g : Holding). g.word / 256) t.1 in omega arith;
    }
