-- The histories that a table stands for go on over a call.
use Rattle.std.proofs.Common.{◌≡◌, ℕ, ◌+◌, ◌/◌, ◌<◌, ◌≤◌, List, [], ◌∷◌, ◌++◌, cond, Bool, true, false, Some, None, Option, is_some, is_none, refl, sym, ap, ◌∙◌, subst, arith, inl, inr}
use Rattle.anchor_rules.specs.Anchors.{AreAnchors, span}
use Rattle.anchor_rules.proofs.Found.{split_keeps}
use Rattle.map_model.specs.Maps.{Pairs, IsMap, find, with}
use Rattle.map_model.specs.Calls.{Call, Reply, New, Set, Gone, Absent, Put, Del, answer_of, map_after}
use Rattle.map_model.specs.History.{Entry, IsLegal, entry_of, after}
use Rattle.map_model.specs.Ordered.{Follows, Enters, EntersLast, Stays, was_put, was_gone}
use Rattle.map_model.specs.Plain.{IsHistoryOf}
use Rattle.map_model.proofs.Finds.{ascending_with}
use Rattle.map_model.proofs.Growing.{stays}
use Rattle.map_model.proofs.PlainHistories.{plain_enters}
use Rattle.map_model.specs.declared.refusal.Refusal.{Refusal}
use Rattle.map_model.specs.declared.refusal.Refusal.TheVariants as refusals
use Rattle.row_words.specs.declared.shape.Shape.{Shape}
use Rattle.leaf_table.specs.Table.{Table, size_at, pairs_at}
use Rattle.map_model.specs.Halves.{parting}
use Rattle.leaf_table.specs.Changes.{IsSplit, IsMerged}
use Rattle.history_sizes.specs.Sizes.{is_new, new_keys, longest_new}
use Rattle.history_sizes.proofs.Bounds.{NoLonger, keys_after}
use Rattle.history_sizes.proofs.Rising.{new_keys-push, new_keys-longer, longest_new-longer}
use Rattle.solo_index.specs.declared.tending.Tended.{Tended}
use Rattle.solo_index.specs.declared.tending.Tended.TheVariants as tended
use Rattle.solo_index.specs.declared.tending.Put as puts
use Rattle.solo_index.specs.declared.tending.Taken.{Taken}
use Rattle.solo_index.specs.Standing.{IsBounded, Stands}
use Rattle.solo_index.specs.Tending.{leaf_of, HasMap, TendsLarge, Opens, IsPut, IsPair, TendsSmall, TendsTaken, IsTaken}
use Rattle.solo_index.specs.Causes.{RefusesPut}
use Rattle.solo_index.proofs.Bounded.{bounded_looser, bounded_new, bounded_set, bounded_gone, bounded_split, bounded_merge}
use Rattle.leaf_spans.proofs.Halving.{parting_short}

-- a call goes behind each history, where the bounds hold with it
pub enters_last : (t u : Table) (call : Call) (reply : Reply) → u.map ≡ map_after t.map call → reply ≡ answer_of t.map call
    → ((h : List Entry) → Stands t h → after (h ++ entry_of 0 h call reply ∷ []) ≡ u.map → IsLegal (h ++ entry_of 0 h call reply ∷ []) → IsBounded u (new_keys (h ++ entry_of 0 h call reply ∷ [])) (longest_new (h ++ entry_of 0 h call reply ∷ [])))
    → Follows (Stands t) (Stands u) (EntersLast 0 true call reply)
enters_last t u call reply after_is reply_is bounded h s =
    let p = plain_enters t.map u.map call reply after_is reply_is h s.history in
    let all : List Entry = h ++ entry_of 0 h call reply ∷ [] in
    let is : p.0 ≡ all = p.2.enters.alone refl in
    let history : IsHistoryOf u.map all = subst (λ (l : List Entry). IsHistoryOf u.map l) is p.1 in
    (all, record { history = history; bounded = bounded h s history.map history.legal }, subst (λ (l : List Entry). EntersLast 0 true call reply h l) is p.2)

pub enters : (t u : Table) (call : Call) (reply : Reply) → u.map ≡ map_after t.map call → reply ≡ answer_of t.map call
    → ((h : List Entry) → Stands t h → after (h ++ entry_of 0 h call reply ∷ []) ≡ u.map → IsLegal (h ++ entry_of 0 h call reply ∷ []) → IsBounded u (new_keys (h ++ entry_of 0 h call reply ∷ [])) (longest_new (h ++ entry_of 0 h call reply ∷ [])))
    → Follows (Stands t) (Stands u) (Enters 0 true call reply)
enters t u call reply after_is reply_is bounded h s = let p = enters_last t u call reply after_is reply_is bounded h s in (p.0, p.1, p.2.enters)

-- a call that leaves the table
pub table_read : (t u : Table) (call : Call) (reply : Reply) → u ≡ t → map_after t.map call ≡ t.map → reply ≡ answer_of t.map call → Follows (Stands t) (Stands u) (EntersLast 0 true call reply)
table_read t u call reply same still reply_is = enters_last t u call reply (ap (λ (x : Table). x.map) same ∙ sym still) reply_is (λ h s after_is legal.
    let b : IsBounded t (new_keys (h ++ entry_of 0 h call reply ∷ [])) (longest_new (h ++ entry_of 0 h call reply ∷ [])) =
    bounded_looser t _ _ _ _ (new_keys-longer h (entry_of 0 h call reply ∷ [])) (longest_new-longer h (entry_of 0 h call reply ∷ [])) s.bounded in
    subst (λ (x : Table). IsBounded x (new_keys (h ++ entry_of 0 h call reply ∷ [])) (longest_new (h ++ entry_of 0 h call reply ∷ []))) (sym same) b)

-- nothing happened
pub table_same : (t u : Table) → u ≡ t → Follows (Stands t) (Stands u) (Stays 0 true)
table_same t u same h s = (h, subst (λ (x : Table). Stands x h) (sym same) s, stays 0 true h s.history.legal)

-- the keys of a history's map are no longer than its longest new one
keys_of : (m : Pairs (List ℕ)) (h : List Entry) → IsLegal h → after h ≡ m → NoLonger (longest_new h) m
keys_of m h legal is = subst (λ (n : Pairs (List ℕ)). NoLonger (longest_new h) n) is (keys_after h legal)

-- a split of a large leaf
split_bounded : (t u : Table) (leaf p : ℕ) (h : List Entry) → AreAnchors t.anchors → IsMap t.map → 2 ≤ t.shape.soft → IsLegal h → after h ≡ t.map → t.shape.soft < size_at t leaf → IsSplit t u leaf → IsBounded t p (longest_new h) → IsBounded u p (longest_new h)
split_bounded t u leaf p h are up soft legal is large split b =
    bounded_split t u leaf p (longest_new h) are split large (parting_short t.map (span t.anchors leaf) up (omega arith) (longest_new h) (keys_of t.map h legal is)) b

-- a table after a split of a crowded leaf, or the same one
pub record IsOpened (old new : Table) (p l : ℕ) : Type 0 where
  pub shape : new.shape ≡ old.shape
  pub map : new.map ≡ old.map
  pub anchors : AreAnchors new.anchors
  pub bounded : IsBounded new p l

module _ (t : Table) (are : AreAnchors t.anchors) (up : IsMap t.map) (soft : 2 ≤ t.shape.soft) (hard : t.shape.soft < t.shape.hard) where
  pub opened : (u : Table) (key : List ℕ) (h : List Entry) → Stands t h → Opens t u key → IsOpened t u (new_keys h) (longest_new h)
  opened u key h s opens = elim opens [
    | inl split ↦
        let crowd = split.0 in
        let is = split.1 in
        let full = crowd.full in
        record {
          shape = is.shape;
          map = is.map;
          anchors = subst AreAnchors (sym is.anchors) (split_keeps t.anchors (leaf_of t key) (parting (pairs_at t (leaf_of t key))) is.right are is.splits);
          bounded = split_bounded t u (leaf_of t key) (new_keys h) h are up soft s.history.legal s.history.map (omega arith) is s.bounded;
        }
    | inr same ↦ subst (λ (x : Table). IsOpened t x (new_keys h) (longest_new h)) (sym same.1) (record { shape = refl; map = refl; anchors = are; bounded = s.bounded })
  ]

  -- a put that was refused
  pub put_refused : (u : Table) (key : List ℕ) (refusal : Refusal) → RefusesPut t u key refusal → Follows (Stands t) (Stands u) (Stays 0 true)
  put_refused u key (refusals.Again cause) r = absurd r
  put_refused u key (refusals.Full cause) r = table_same t u r.1
  put_refused u key refusals.NoMemory r = elim r.1 [
    | inl same ↦ table_same t u same
    | inr opens ↦ λ h s.
        let o = opened u key h s opens in
        let history : IsHistoryOf u.map h = subst (λ (m : Pairs (List ℕ)). IsHistoryOf m h) (sym o.map) s.history in
        (h, record { history = history; bounded = o.bounded }, stays 0 true h s.history.legal)
  ]

-- a found value tells what a put and a del answer
put_reply : (o : Option (List ℕ)) (new : Bool) → new ≡ is_none o → was_put new ≡ cond (is_some o) Set New
put_reply None true e = refl
put_reply None false e = absurd (cc)
put_reply (Some value) true e = absurd (cc)
put_reply (Some value) false e = refl

taken_reply : (o : Option (List ℕ)) (gone : Bool) → gone ≡ is_some o → was_gone gone ≡ cond (is_some o) Gone Absent
taken_reply None true e = absurd (cc)
taken_reply None false e = refl
taken_reply (Some value) true e = refl
taken_reply (Some value) false e = absurd (cc)

module _ (t u : Table) (are : AreAnchors t.anchors) (up : IsMap t.map) (soft : 2 ≤ t.shape.soft) (hard : t.shape.soft < t.shape.hard) (key value : List ℕ) (put : puts.Put) (is : IsPut t u key value put) where
  replied : was_put put.new ≡ answer_of t.map (Put key value)
  replied = put_reply (find t.map key) put.new is.was_new

  -- the bounds once the value is set
  written_bounded : (o : Option (List ℕ)) (b : Bool) (p l : ℕ) → IsOpened t is.opened p l → find t.map key ≡ o → b ≡ is_none o → IsBounded is.written (p + is_new (was_put b)) l
  written_bounded o b p l open_one found new = by o b found new
    where
      writes : HasMap is.opened is.written (with is.opened.map key value)
      writes = record { shape = is.writes.shape; anchors = is.writes.anchors; now = is.writes.now ∙ ap (λ (m : Pairs (List ℕ)). with m key value) (sym open_one.map) }

      up' : IsMap is.opened.map
      up' = subst (λ (m : Pairs (List ℕ)). IsMap m) (sym open_one.map) up

      by : (o : Option (List ℕ)) (b : Bool) → find t.map key ≡ o → b ≡ is_none o → IsBounded is.written (p + is_new (was_put b)) l
      by None true found new = bounded_new is.opened is.written open_one.anchors up' key value p l open_one.bounded writes (ap (λ (m : Pairs (List ℕ)). find m key) open_one.map ∙ found)
      by None false found new = absurd (cc)
      by (Some v) true found new = absurd (cc)
      by (Some v) false found new = bounded_looser is.written p (p + 0) l l (omega arith) (omega arith) (bounded_set is.opened is.written open_one.anchors up' key value p l open_one.bounded writes
          (ap (λ (m : Pairs (List ℕ)). is_some (find m key)) open_one.map ∙ ap (λ (o : Option (List ℕ)). is_some o) found))

  -- behind the tending of the key's leaf
  tended_large : (h : List Entry) (p : ℕ) (did : Tended) → AreAnchors is.written.anchors → 2 ≤ is.written.shape.soft → IsLegal h → after h ≡ is.written.map → IsMap is.written.map → IsBounded is.written p (longest_new h) → TendsLarge is.written u (leaf_of is.written key) did → (u.map ≡ is.written.map) × (u.shape ≡ is.written.shape) × IsBounded u p (longest_new h)
  tended_large h p did are' soft' legal after_is up' b tends = by did tends
    where
      same : u ≡ is.written → (u.map ≡ is.written.map) × (u.shape ≡ is.written.shape) × IsBounded u p (longest_new h)
      same e = (ap (λ (x : Table). x.map) e, ap (λ (x : Table). x.shape) e, subst (λ (x : Table). IsBounded x p (longest_new h)) (sym e) b)

      by : (did : Tended) → TendsLarge is.written u (leaf_of is.written key) did → (u.map ≡ is.written.map) × (u.shape ≡ is.written.shape) × IsBounded u p (longest_new h)
      by tended.Nothing w = same w.1
      by tended.Split w = (w.1.map, w.1.shape, split_bounded is.written u (leaf_of is.written key) p h are' up' soft' legal after_is w.0 w.1 b)
      by (tended.Refused why) w = same w.2
      by tended.Merged w = absurd w
      by tended.NoMemory w = same w.1

  -- what a put leaves
  put_leaves : (h : List Entry) → Stands t h → after (h ++ entry_of 0 h (Put key value) (was_put put.new) ∷ []) ≡ with t.map key value → IsLegal (h ++ entry_of 0 h (Put key value) (was_put put.new) ∷ [])
      → (u.map ≡ is.written.map) × (u.shape ≡ is.written.shape) × IsBounded u (new_keys (h ++ entry_of 0 h (Put key value) (was_put put.new) ∷ [])) (longest_new (h ++ entry_of 0 h (Put key value) (was_put put.new) ∷ []))
  put_leaves h s after_is legal =
      let e : Entry = entry_of 0 h (Put key value) (was_put put.new) in
      let o = opened t are up soft hard is.opened key h s is.opens in
      let b = written_bounded (find t.map key) put.new (new_keys h) (longest_new h) o refl is.was_new in
      let keys = new_keys-push h e in
      let c : IsBounded is.written (new_keys (h ++ e ∷ [])) (longest_new (h ++ e ∷ [])) = bounded_looser is.written _ _ _ _ (omega arith) (longest_new-longer h (e ∷ [])) b in
      let shape : is.written.shape ≡ t.shape = is.writes.shape ∙ o.shape in
      tended_large (h ++ e ∷ []) (new_keys (h ++ e ∷ [])) put.tended (subst AreAnchors (sym is.writes.anchors) o.anchors) (omega (arith, ap (λ (k : Shape). k.soft) shape)) legal (after_is ∙ sym is.writes.now)
      (subst (λ (m : Pairs (List ℕ)). IsMap m) (sym is.writes.now) (ascending_with t.map key value up)) c is.tends

  -- an answered put
  pub put_enters : Follows (Stands t) (Stands u) (Enters 0 true (Put key value) (was_put put.new))
  put_enters h s =
      let p = plain_enters t.map (with t.map key value) (Put key value) (was_put put.new) refl replied h s.history in
      let is_all : p.0 ≡ h ++ entry_of 0 h (Put key value) (was_put put.new) ∷ [] = p.2.enters.alone refl in
      let history : IsHistoryOf (with t.map key value) (h ++ entry_of 0 h (Put key value) (was_put put.new) ∷ []) = subst (λ (l : List Entry). IsHistoryOf (with t.map key value) l) is_all p.1 in
      let left = put_leaves h s history.map history.legal in
      let map : u.map ≡ with t.map key value = left.0 ∙ is.writes.now in
      enters t u (Put key value) (was_put put.new) map replied (λ h s after_is legal. (put_leaves h s (after_is ∙ map) legal).2) h s

  pub put_shape : u.shape ≡ t.shape
  put_shape = by put.tended is.tends ∙ (is.writes.shape ∙ kept is.opens)
    where
      kept : Opens t is.opened key → is.opened.shape ≡ t.shape
      kept opens = elim opens [ inl split ↦ split.1.shape | inr same ↦ ap (λ (x : Table). x.shape) same.1 ]

      by : (did : Tended) → TendsLarge is.written u (leaf_of is.written key) did → u.shape ≡ is.written.shape
      by tended.Nothing w = ap (λ (x : Table). x.shape) w.1
      by tended.Split w = w.1.shape
      by (tended.Refused why) w = ap (λ (x : Table). x.shape) w.2
      by tended.Merged w = absurd w
      by tended.NoMemory w = ap (λ (x : Table). x.shape) w.1

-- a refused put leaves the shape
pub refused_shape : (t u : Table) (key : List ℕ) (refusal : Refusal) → RefusesPut t u key refusal → u.shape ≡ t.shape
refused_shape t u key (refusals.Again cause) r = absurd r
refused_shape t u key (refusals.Full cause) r = ap (λ (x : Table). x.shape) r.1
refused_shape t u key refusals.NoMemory r = elim r.1 [
  | inl same ↦ ap (λ (x : Table). x.shape) same
  | inr opens ↦ elim opens [ inl split ↦ split.1.shape | inr same ↦ ap (λ (x : Table). x.shape) same.1 ]
]

-- the two that are merged have few enough keys
pair_small : (t : Table) (leaf left right : ℕ) → IsPair t leaf left right → size_at t left + size_at t right ≤ t.shape.merge_sum
pair_small t leaf left right pair = elim pair [ inl to_right ↦ to_right.1.small | inr to_left ↦ to_left.2.small ]

module _ (t u : Table) (are : AreAnchors t.anchors) (up : IsMap t.map) (few : t.shape.merge_sum ≤ t.shape.soft / 2) (key : List ℕ) (taken : Taken) (is : IsTaken t u key taken) where
  record IsTended : Type 0 where
    map : u.map ≡ is.written.map
    shape : u.shape ≡ is.written.shape
    bounded : (p l : ℕ) → IsBounded is.written p l → IsBounded u p l

  still : u ≡ is.written → IsTended
  still e = record { map = ap (λ (x : Table). x.map) e; shape = ap (λ (x : Table). x.shape) e; bounded = λ p l b. subst (λ (x : Table). IsBounded x p l) (sym e) b }

  tended_small : (did : Tended) → TendsSmall is.written u (leaf_of is.written key) did → IsTended
  tended_small tended.Nothing w = still w.1
  tended_small tended.Split w = absurd w
  tended_small (tended.Refused why) w = absurd w
  tended_small tended.Merged w =
      let merged : IsMerged is.written u w.0 w.1 = w.3 in
      let small = pair_small is.written (leaf_of is.written key) w.0 w.1 w.2 in
      record {
        map = merged.map;
        shape = merged.shape;
        bounded = λ p l b. bounded_merge is.written u w.0 w.1 p l (subst AreAnchors (sym is.writes.anchors) are) merged
            (omega (arith, small, ap (λ (k : Shape). k.soft / 2) is.writes.shape, ap (λ (k : Shape). k.merge_sum) is.writes.shape)) b;
      }
  tended_small tended.NoMemory w = still w.1

  tended_taken : (gone : Bool) (did : Tended) → TendsTaken gone is.written u (leaf_of is.written key) did → IsTended
  tended_taken true did w = tended_small did w
  tended_taken false did w = still w.1

  -- an answered del
  pub taken_enters : Follows (Stands t) (Stands u) (Enters 0 true (Del key) (was_gone taken.gone))
  taken_enters =
      let done = tended_taken taken.gone taken.tended is.tends in
      enters t u (Del key) (was_gone taken.gone) (done.map ∙ is.writes.now) (taken_reply (find t.map key) taken.gone is.was_there) (λ h s after_is legal.
      let e : Entry = entry_of 0 h (Del key) (was_gone taken.gone) in
      let b = done.bounded (new_keys h) (longest_new h) (bounded_gone t is.written are up key (new_keys h) (longest_new h) s.bounded is.writes) in
      bounded_looser u _ _ _ _ (new_keys-longer h (e ∷ [])) (longest_new-longer h (e ∷ [])) b)

  pub taken_shape : u.shape ≡ t.shape
  taken_shape = let done = tended_taken taken.gone taken.tended is.tends in done.shape ∙ is.writes.shape
