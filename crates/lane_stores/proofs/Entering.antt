-- What a call on the map says of the lane's history.
use Rattle.std.proofs.Common.{◌≡◌, ◌⊎◌, inl, inr, max, ℕ, ◌<◌, List, [], ◌∷◌, ◌++◌, length, Bool, true, false, cond, is_some, refl, sym, ap, ◌∙◌, subst, arith, Option, Some, None, IsSome}
use Rattle.std.specs.Bool.{OnTrue, OnFalse}
use Rattle.std.specs.List.{AllByRecursion}
use Rattle.std.proofs.lemmas.List.{append-nil}
use mathlib.Core.List.{IsPrefix}
use Rattle.atomic_table.specs.Table.{Me}
use Rattle.key_bytes.specs.declared.bound.Bound.{Bound}
use Rattle.map_model.specs.Maps.{find, with, without, between}
use Rattle.map_model.specs.Calls.{Call, Get, Put, Del, Part, Reply, Pairs, New, Set, Gone, Absent, found, answer_of}
use Rattle.map_model.specs.History.{Entry, after, own, IsLegal, IsNumbered, entry_of}
use Rattle.map_model.specs.Ordered.{Follows, Grows, Enters, EntersLast, Stays, got, was_put, was_gone}
use Rattle.map_model.proofs.Growing.{follows_weaker}
use Rattle.map_model.proofs.Histories.{after-push, legal-push, numbered-push, own-push, begins_trans, begins_push}
use Rattle.lane_stores.specs.declared.view.View.{View}
use Rattle.lane_stores.specs.Rule.{Map, IsOf, IsMet, Has, greater, both_views}
use Rattle.lane_stores.specs.Steps.{Takes, Unlocked, Looked}
use Rattle.lane_stores.specs.Calls.{IsIdle, IsOut, HasSeen, map_in, entries_of, GoesBy}
use Rattle.lane_stores.proofs.Beginnings.{all_append, all_more, among_front, longer_is, greater_is}

-- the replies that the map's own answers stand for
pub got_is : (b : Bool) (o : Option (List ℕ)) (out : List ℕ) → OnTrue b (o ≡ Some out) → OnFalse b ((o ≡ None) × (out ≡ [])) → got b out ≡ found o
got_is true o out here gone = ap found (sym here)
got_is false o out here gone = ap found (sym gone.0)

pub put_is : (b : Bool) (o : Option (List ℕ)) → OnTrue b (o ≡ None) → OnFalse b (IsSome o) → was_put b ≡ cond (is_some o) Set New
put_is true o here gone = ap (λ w. cond (is_some w) Set New) (sym here)
put_is false o here gone = ap (λ w. cond w Set New) (sym gone)

pub gone_is : (b a : Bool) → b ≡ a → was_gone b ≡ cond a Gone Absent
gone_is true a is = ap (λ w. cond w Gone Absent) is
gone_is false a is = ap (λ w. cond w Gone Absent) is

-- the history with a call's entry, or without one, is what the map stands for
pub goes_after : (lane : ℕ) (seen : List Entry) (x : Option (Call × Reply)) (map : Map) → GoesBy (after seen) x map → map ≡ after (seen ++ entries_of lane seen x)
goes_after lane seen None map goes = goes ∙ sym (ap after (append-nil seen))
goes_after lane seen (Some x) map goes = goes.0 ∙ sym (after-push seen (entry_of lane seen x.0 x.1))

pub goes_legal : (lane : ℕ) (seen : List Entry) (x : Option (Call × Reply)) (map : Map) → GoesBy (after seen) x map → IsLegal seen → IsLegal (seen ++ entries_of lane seen x)
goes_legal lane seen None map goes legal = subst IsLegal (sym (append-nil seen)) legal
goes_legal lane seen (Some x) map goes legal = legal-push seen (entry_of lane seen x.0 x.1) legal goes.1

pub goes_numbered : (lane : ℕ) (seen : List Entry) (x : Option (Call × Reply)) → IsNumbered seen → IsNumbered (seen ++ entries_of lane seen x)
goes_numbered lane seen None numbered = subst IsNumbered (sym (append-nil seen)) numbered
goes_numbered lane seen (Some x) numbered = numbered-push seen (entry_of lane seen x.0 x.1) numbered refl

pub goes_lanes : (lane : ℕ) (seen : List Entry) (x : Option (Call × Reply)) → AllByRecursion (λ (e : Entry). e.lane ≡ lane) (entries_of lane seen x)
goes_lanes lane seen None = tt
goes_lanes lane seen (Some x) = (refl, tt)

-- A call that was answered on the map after this history is the lane's next entry, behind all that the lane had seen.
module _ (lane : ℕ) (sole : Bool) (old log : List Entry) (begins : IsPrefix old log) (mine : own lane log ≡ own lane old) (legal : IsLegal log) (alone : sole ≡ true → log ≡ old) where
  module _ (call : Call) (reply : Reply) (right : reply ≡ answer_of (after log) call) where
    same_entry : entry_of lane log call reply ≡ entry_of lane old call reply
    same_entry = ap (λ (l : List Entry). record { lane = lane; number = length l; call = call; reply = reply }) mine

    enters : Grows lane sole (entry_of lane old call reply ∷ []) old (log ++ entry_of lane log call reply ∷ [])
    enters = record {
      begins = begins_trans old log (log ++ entry_of lane log call reply ∷ []) begins (begins_push log (entry_of lane log call reply));
      legal = legal-push log (entry_of lane log call reply) legal right;
      mine = own-push lane log (entry_of lane log call reply) refl ∙ (ap (λ l. l ++ entry_of lane log call reply ∷ []) mine ∙ ap (λ e. own lane old ++ e ∷ []) same_entry);
      alone = λ is. ap (λ l. l ++ entry_of lane log call reply ∷ []) (alone is) ∙ ap (λ e. old ++ e ∷ []) same_entry;
    }

    pub entered : Follows (HasSeen old) (HasSeen (log ++ entry_of lane log call reply ∷ [])) (EntersLast lane sole call reply)
    entered h stood = (
      log ++ entry_of lane log call reply ∷ [],
      record { same = refl; legal = legal-push log (entry_of lane log call reply) legal right },
      subst (λ h. EntersLast lane sole call reply h (log ++ entry_of lane log call reply ∷ [])) (sym stood.same)
          (record { enters = enters; last = (log, ap (λ e. log ++ e ∷ []) same_entry) }),
    )

  -- and one that wasn't is none
  pub stayed : Follows (HasSeen old) (HasSeen log) (Stays lane sole)
  stayed h stood = (
    log,
    record { same = refl; legal = legal },
    subst (λ h. Stays lane sole h log) (sym stood.same)
        (record { begins = begins; legal = legal; mine = mine ∙ sym (append-nil (own lane old)); alone = λ is. alone is ∙ sym (append-nil old) }),
  )

pub enters_only : (a b : List Entry → Type 0) (lane : ℕ) (sole : Bool) (call : Call) (reply : Reply) → Follows a b (EntersLast lane sole call reply) → Follows a b (Enters lane sole call reply)
enters_only a b lane sole call reply = follows_weaker a b _ _ (λ old new last. last.enters)

-- A lane's seat within a call, and behind it.
pub out_after : (most lane : ℕ) (m n : Me Map View) → IsIdle most lane m → Takes m n → IsOut most lane n
out_after most lane m n idle took = subst (IsOut most lane) (sym took.is) (record {
  out = ap (λ l. (0, after took.log) ∷ l) idle.bare;
  holds = refl;
  fixed = idle.fixed;
  mine = idle.mine;
  below = idle.below;
  of = subst (λ k. IsOf k took.log) idle.fixed took.of;
})

pub idle_after : (most lane : ℕ) (n p : Me Map View) (x : Option (Call × Reply)) → IsOut most lane n → GoesBy (after n.0.seen) x (map_in n.1) → Unlocked (entries_of lane n.0.seen x) n p → IsIdle most lane p
idle_after most lane n p x out goes is = subst (IsIdle most lane) (sym is) (record {
  bare = refl;
  idle = refl;
  fixed = out.fixed;
  mine = out.mine;
  below = out.below;
  of = record {
    legal = goes_legal lane n.0.seen x (map_in n.1) goes out.of.legal;
    numbered = goes_numbered lane n.0.seen x out.of.numbered;
    lanes = all_append (λ (e : Entry). e.lane < most) n.0.seen (entries_of lane n.0.seen x) out.of.lanes
        (all_more (λ (e : Entry). e.lane ≡ lane) (λ (e : Entry). e.lane < most) (λ e same. omega (arith, same, out.below)) (entries_of lane n.0.seen x) (goes_lanes lane n.0.seen x));
  };
})

-- the reply is the one that the map after this history gives
abbrev pub IsRight : List Entry → Option (Call × Reply) → Type 0
IsRight log None = Unit {0}
IsRight log (Some x) = x.1 ≡ answer_of (after log) x.0

right_by : (seen log : List Entry) (x : Option (Call × Reply)) (map : Map) → seen ≡ log → GoesBy (after seen) x map → IsRight log x
right_by seen log None map is goes = tt
right_by seen log (Some x) map is goes = goes.1 ∙ ap (λ h. answer_of (after h) x.0) is

-- The lane's seat behind a call, whose entry stands behind all that was seen.
pub record Called (most lane : ℕ) (m p : Me Map View) (x : Option (Call × Reply)) : Type 0 where
  pub log : List Entry
  pub begins : IsPrefix m.0.seen log
  pub mine : own lane log ≡ own lane m.0.seen
  pub legal : IsLegal log
  pub alone : m.0.sole ≡ true → log ≡ m.0.seen
  pub right : IsRight log x
  pub idle : IsIdle most lane p
  pub seen : p.0.seen ≡ log ++ entries_of lane log x
  pub sole : p.0.sole ≡ m.0.sole
  pub next : p.0.next ≡ m.0.next
  pub room : p.0.room ≡ m.0.room

pub called : (most lane : ℕ) (m n q p : Me Map View) (x : Option (Call × Reply)) → IsIdle most lane m → Takes m n → q.0 ≡ n.0 → IsOut most lane q → GoesBy (after q.0.seen) x (map_in q.1) → Unlocked (entries_of lane q.0.seen x) q p → Called most lane m p x
called most lane m n q p x idle took same out goes is =
    let seen : q.0.seen ≡ took.log = ap (λ (v : View). v.seen) same ∙ ap (λ (k : Me Map View). k.0.seen) took.is in record {
      log = took.log;
      begins = took.met.begins;
      mine = took.met.all lane idle.mine;
      legal = took.of.legal;
      alone = took.alone;
      right = right_by q.0.seen took.log x (map_in q.1) seen goes;
      idle = idle_after most lane q p x out goes is;
      seen = ap (λ (k : Me Map View). k.0.seen) is ∙ ap (λ l. l ++ entries_of lane l x) seen;
      sole = ap (λ (k : Me Map View). k.0.sole) is ∙ (ap (λ (v : View). v.sole) same ∙ ap (λ (k : Me Map View). k.0.sole) took.is);
      next = ap (λ (k : Me Map View). k.0.next) is ∙ (ap (λ (v : View). v.next) same ∙ ap (λ (k : Me Map View). k.0.next) took.is);
      room = ap (λ (k : Me Map View). k.0.room) is ∙ (ap (λ (v : View). v.room) same ∙ ap (λ (k : Me Map View). k.0.room) took.is);
    }

-- the map that was taken is the one that the history leaves
pub map_taken : (m n : Me Map View) → Takes m n → map_in n.1 ≡ after n.0.seen
map_taken m n took = ap (λ (k : Me Map View). map_in k.1) took.is ∙ sym (ap (λ (k : Me Map View). after k.0.seen) took.is)

-- what each call did to it
pub goes_got : (map : Map) (seen : List Entry) (key : List ℕ) (b : Bool) (out : List ℕ) → map ≡ after seen → OnTrue b (find map key ≡ Some out) → OnFalse b ((find map key ≡ None) × (out ≡ [])) → GoesBy (after seen) (Some (Get key, got b out)) map
goes_got map seen key b out is here gone = (is, got_is b (find map key) out here gone ∙ ap (λ m. found (find m key)) is)

pub goes_put : (before map : Map) (seen : List Entry) (key value : List ℕ) (b : Bool) → before ≡ after seen → map ≡ with before key value → OnTrue b (find before key ≡ None) → OnFalse b (IsSome (find before key)) → GoesBy (after seen) (Some (Put key value, was_put b)) map
goes_put before map seen key value b is now here gone = (now ∙ ap (λ m. with m key value) is, put_is b (find before key) here gone ∙ ap (λ m. cond (is_some (find m key)) Set New) is)

pub goes_gone : (before map : Map) (seen : List Entry) (key : List ℕ) (b : Bool) → before ≡ after seen → map ≡ without before key → b ≡ is_some (find before key) → GoesBy (after seen) (Some (Del key, was_gone b)) map
goes_gone before map seen key b is now same = (now ∙ ap (λ m. without m key) is, gone_is b (is_some (find before key)) same ∙ ap (λ m. cond (is_some (find m key)) Gone Absent) is)

pub goes_left : (map : Map) (seen : List Entry) (from upto : Bound) (pairs : Map) → map ≡ after seen → pairs ≡ between map from upto → GoesBy (after seen) (Some (Part from upto, Pairs pairs)) map
goes_left map seen from upto pairs is same = (is, ap Pairs (same ∙ ap (λ m. between m from upto) is))

-- What the lane stands for goes on by the call's entry, or without one.
pub entered_called : (most lane : ℕ) (sole : Bool) (m p : Me Map View) (call : Call) (reply : Reply) → m.0.sole ≡ sole → Called most lane m p (Some (call, reply)) → Follows (HasSeen m.0.seen) (HasSeen p.0.seen) (EntersLast lane sole call reply)
entered_called most lane sole m p call reply is k =
    subst (λ l. Follows (HasSeen m.0.seen) (HasSeen l) (EntersLast lane sole call reply)) (sym k.seen)
    (entered lane sole m.0.seen k.log k.begins k.mine k.legal (λ alone. k.alone (is ∙ alone)) call reply k.right)

pub stayed_called : (most lane : ℕ) (sole : Bool) (m p : Me Map View) → m.0.sole ≡ sole → Called most lane m p None → Follows (HasSeen m.0.seen) (HasSeen p.0.seen) (Stays lane sole)
stayed_called most lane sole m p is k =
    subst (λ l. Follows (HasSeen m.0.seen) (HasSeen l) (Stays lane sole)) (sym (k.seen ∙ append-nil k.log))
    (stayed lane sole m.0.seen k.log k.begins k.mine k.legal (λ alone. k.alone (is ∙ alone)))

-- A seat that took in another one has met both, and is between two calls.
pub joined_met : (m o n : Me Map View) → n ≡ (both_views m.0 o.0, []) → Looked n n → IsMet n.0.seen (m.0.ended, m.0.seen) × IsMet n.0.seen (o.0.ended, o.0.seen)
joined_met m o n is looked =
    let all = subst (AllByRecursion (IsMet n.0.seen)) (ap (λ (k : Me Map View). k.0.met) is) looked.met in (all.0, all.1.0)

pub joined_idle : (most lane : ℕ) (m o n : Me Map View) → IsIdle most lane m → n ≡ (both_views m.0 o.0, []) → Looked n n → IsIdle most lane n
joined_idle most lane m o n idle is looked =
    let fixed : n.0.most ≡ most = ap (λ (k : Me Map View). k.0.most) is ∙ idle.fixed in record {
      bare = ap (λ (k : Me Map View). k.1) is;
      idle = ap (λ (k : Me Map View). k.0.holds) is ∙ idle.idle;
      fixed = fixed;
      mine = subst (λ l. Has l lane) (sym (ap (λ (k : Me Map View). k.0.ended) is)) (among_front m.0.ended o.0.ended lane idle.mine);
      below = idle.below;
      of = subst (λ k. IsOf k n.0.seen) fixed looked.of;
    }

pub joined_one : (m o n : Me Map View) → n ≡ (both_views m.0 o.0, []) → (n.0.seen ≡ m.0.seen) ⊎ (n.0.seen ≡ o.0.seen)
joined_one m o n is =
    subst (λ l. (l ≡ m.0.seen) ⊎ (l ≡ o.0.seen)) (sym (ap (λ (k : Me Map View). k.0.seen) is))
    (longer_is (λ l. (l ≡ m.0.seen) ⊎ (l ≡ o.0.seen)) m.0.seen o.0.seen (λ less. inl refl) (λ less. inr refl))

pub greater_max : (a b : ℕ) → greater a b ≡ max a b
greater_max a b = greater_is (λ n. n ≡ max a b) a b (λ less. omega (arith, less)) (λ less. omega (arith, less))
