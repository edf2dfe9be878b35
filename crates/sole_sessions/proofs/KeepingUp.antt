-- The history of a store over lines is no larger than that of one ordered map, whatever of the lines the store refuses.
use Rattle.std.proofs.Common.{◌≡◌, inl, inr, ◌+◌, ◌-◌, ◌≤◌, ℕ, List, [], ◌∷◌, ◌++◌, length, max, Bool, true, false, cond, is_some, refl, sym, ap, ◌∙◌, subst, Option, Some, None, Ok, Err, arith}
use Rattle.std.proofs.lemmas.List.{append-nil}
use Rattle.key_bytes.specs.declared.bound.Bound.{Bound}
use Rattle.history_sizes.specs.Sizes.{is_new, new_keys, new_length, longest_new, is_change, changes}
use Rattle.history_sizes.proofs.Bounds.{found_no_longer, keys_after}
use Rattle.history_sizes.proofs.Rising.{new_keys-append, longest_new-append, changes-append, new_keys-push, longest_new-push, changes-push}
use Rattle.line_protocol.specs.Requests.{Asked}
use Rattle.line_protocol.specs.declared.fault.RequestFault.TheVariants as faults
use Rattle.line_protocol.specs.declared.request.Request.TheVariants as asks
use Rattle.map_model.specs.Calls as calls
use Rattle.map_model.specs.History.{Entry, after, map_from, IsLegalFrom, IsLegal}
use Rattle.map_model.specs.Maps.{Pairs, find, with, without, between}
use Rattle.map_model.proofs.Histories.{map_from-append, after-push, legal-push}
use Rattle.map_model.specs.Parts.{pairs_in}
use Rattle.session.specs.Scans.{AreParts}
use Rattle.session.specs.Transcripts.{Exchange, IsAnswered, IsServedAs}
use Rattle.sole_sessions.specs.PlainHistory.{answered_entry, plain_entries, history_from}
use Rattle.sole_sessions.specs.Rooms.{IsNoLarger}
use Rattle.sole_sessions.proofs.Covering.{has_key, Covers, covers_still, covers_more, covers_both, put_both, del_both, put_ahead, put_behind, del_ahead, del_behind, put_there, del_absent}
use Rattle.sole_sessions.proofs.Larger.{larger_then, larger_from}

-- The plain history put a new key more for each key that its map has alone, and changed once more for each that only the store's map has.
-- A put that was refused leaves a key of the first kind, and a del that was refused one of the second, which pays for a later New, Set or Gone of the store.
pub record KeepsUp (seen plain : List Entry) : Type 0 where
  pub keys : Covers (after seen) (after plain) (new_keys seen) (new_keys plain)
  pub changed : Covers (after plain) (after seen) (changes seen) (changes plain)
  pub longest : longest_new seen ≤ longest_new plain
  pub legal : IsLegal plain

pub keeps_none : KeepsUp [] []
keeps_none = record {
  keys = record { keys = []; few = omega arith; each = λ key ahead. absurd (let no : false ≡ true = ahead.1 in cc) };
  changed = record { keys = []; few = omega arith; each = λ key ahead. absurd (let no : false ≡ true = ahead.1 in cc) };
  longest = omega arith;
  legal = tt;
}

covers_at : (a b c d : Pairs (List ℕ)) (spent most : ℕ) → c ≡ a → d ≡ b → Covers a b spent most → Covers c d spent most
covers_at a b c d spent most first second covers = subst (λ w. Covers w d spent most) (sym first) (subst (λ w. Covers a w spent most) (sym second) covers)

-- What the answers of a map count.
new_put : (m : Pairs (List ℕ)) (key value : List ℕ) → is_new (calls.answer_of m (calls.Put key value)) + cond (has_key m key) 1 0 ≡ 1
new_put m key value = elim (has_key m key) as (λ s. is_new (cond s calls.Set calls.New) + cond s 1 0 ≡ 1) [ true ↦ refl | false ↦ refl ]

change_put : (m : Pairs (List ℕ)) (key value : List ℕ) → is_change (calls.answer_of m (calls.Put key value)) ≡ cond (has_key m key) 1 0
change_put m key value = elim (has_key m key) as (λ s. is_change (cond s calls.Set calls.New) ≡ cond s 1 0) [ true ↦ refl | false ↦ refl ]

new_del : (m : Pairs (List ℕ)) (key : List ℕ) → is_new (calls.answer_of m (calls.Del key)) ≡ 0
new_del m key = elim (has_key m key) as (λ s. is_new (cond s calls.Gone calls.Absent) ≡ 0) [ true ↦ refl | false ↦ refl ]

change_del : (m : Pairs (List ℕ)) (key : List ℕ) → is_change (calls.answer_of m (calls.Del key)) ≡ cond (has_key m key) 1 0
change_del m key = elim (has_key m key) as (λ s. is_change (cond s calls.Gone calls.Absent) ≡ cond s 1 0) [ true ↦ refl | false ↦ refl ]

new_get : (m : Pairs (List ℕ)) (key : List ℕ) → is_new (calls.answer_of m (calls.Get key)) ≡ 0
new_get m key = elim (find m key) as (λ o. is_new (calls.found o) ≡ 0) [ None ↦ refl | Some v ↦ refl ]

change_get : (m : Pairs (List ℕ)) (key : List ℕ) → is_change (calls.answer_of m (calls.Get key)) ≡ 0
change_get m key = elim (find m key) as (λ o. is_change (calls.found o) ≡ 0) [ None ↦ refl | Some v ↦ refl ]

-- a key that is new in one map is new in another or stands there
long_put : (m n : Pairs (List ℕ)) (key value : List ℕ) (most : ℕ) → ((v : List ℕ) → find n key ≡ Some v → length key ≤ most)
    → new_length (calls.Put key value) (calls.answer_of m (calls.Put key value)) ≤ max most (new_length (calls.Put key value) (calls.answer_of n (calls.Put key value)))
long_put m n key value most there = by (has_key m key) (find n key) refl
  where
    by : (s : Bool) (o : Option (List ℕ)) → find n key ≡ o → new_length (calls.Put key value) (cond s calls.Set calls.New) ≤ max most (new_length (calls.Put key value) (cond (is_some o) calls.Set calls.New))
    by true None is = omega arith
    by true (Some v) is = omega arith
    by false None is = omega arith
    by false (Some v) is = omega (arith, there v is)

module _ (seen h : List Entry) (up : KeepsUp seen h) where
  -- Calls with an entry.
  module _ (e : Entry) (call : calls.Call) (called : e.call ≡ call) (reply : e.reply ≡ calls.answer_of (after seen) call) where
    now_seen : after (seen ++ e ∷ []) ≡ calls.map_after (after seen) call
    now_seen = after-push seen e ∙ ap (calls.map_after (after seen)) called

    now_plain : after (h ++ answered_entry h call ∷ []) ≡ calls.map_after (after h) call
    now_plain = after-push h (answered_entry h call)

    keeps_entry : Covers (calls.map_after (after seen) call) (calls.map_after (after h) call) (new_keys (seen ++ e ∷ [])) (new_keys (h ++ answered_entry h call ∷ []))
        → Covers (calls.map_after (after h) call) (calls.map_after (after seen) call) (changes (seen ++ e ∷ [])) (changes (h ++ answered_entry h call ∷ []))
        → new_length call (calls.answer_of (after seen) call) ≤ max (longest_new h) (new_length call (calls.answer_of (after h) call)) → KeepsUp (seen ++ e ∷ []) (h ++ answered_entry h call ∷ [])
    keeps_entry keys changed long =
        let same : new_length e.call e.reply ≡ new_length call (calls.answer_of (after seen) call) = ap (λ c. new_length c e.reply) called ∙ ap (new_length call) reply in record {
          keys = covers_at _ _ _ _ _ _ now_seen now_plain keys;
          changed = covers_at _ _ _ _ _ _ now_plain now_seen changed;
          longest = omega (arith, longest_new-push seen e, longest_new-push h (answered_entry h call), up.longest, same, long);
          legal = legal-push h (answered_entry h call) up.legal refl;
        }

    news : new_keys (seen ++ e ∷ []) ≡ new_keys seen + is_new (calls.answer_of (after seen) call)
    news = new_keys-push seen e ∙ ap (λ r. new_keys seen + is_new r) reply

    changing : changes (seen ++ e ∷ []) ≡ changes seen + is_change (calls.answer_of (after seen) call)
    changing = changes-push seen e ∙ ap (λ r. changes seen + is_change r) reply

  plain_news : (call : calls.Call) → new_keys (h ++ answered_entry h call ∷ []) ≡ new_keys h + is_new (calls.answer_of (after h) call)
  plain_news call = new_keys-push h (answered_entry h call)

  plain_changing : (call : calls.Call) → changes (h ++ answered_entry h call ∷ []) ≡ changes h + is_change (calls.answer_of (after h) call)
  plain_changing call = changes-push h (answered_entry h call)

  pub keeps_put : (e : Entry) (key value : List ℕ) → e.call ≡ calls.Put key value → e.reply ≡ calls.answer_of (after seen) (calls.Put key value) → KeepsUp (seen ++ e ∷ []) (h ++ answered_entry h (calls.Put key value) ∷ [])
  keeps_put e key value called reply =
      let call = calls.Put key value in
      let m = after seen in
      let n = after h in
      keeps_entry e call called reply
      (covers_both m n (with m key value) (with n key value) _ _ _ _ up.keys key (has_key m key) (has_key n key) refl refl
      (omega (arith, news e call called reply, plain_news call, new_put m key value, new_put n key value)) (λ other now. put_both m n key other value now))
      (covers_both n m (with n key value) (with m key value) _ _ _ _ up.changed key (has_key n key) (has_key m key) refl refl
      (omega (arith, changing e call called reply, plain_changing call, change_put m key value, change_put n key value)) (λ other now. put_both n m key other value now))
      (long_put m n key value (longest_new h) (λ v is. found_no_longer (longest_new h) n key v (keys_after h up.legal) is))

  keeps_del : (e : Entry) (key : List ℕ) → e.call ≡ calls.Del key → e.reply ≡ calls.answer_of (after seen) (calls.Del key) → KeepsUp (seen ++ e ∷ []) (h ++ answered_entry h (calls.Del key) ∷ [])
  keeps_del e key called reply =
      let call = calls.Del key in
      let m = after seen in
      let n = after h in
      keeps_entry e call called reply
      (covers_still m n (without m key) (without n key) _ _ _ _ up.keys (omega (arith, news e call called reply, plain_news call, new_del m key, new_del n key)) (λ other now. (del_both m n key other now).0))
      (covers_both n m (without n key) (without m key) _ _ _ _ up.changed key (has_key n key) (has_key m key) refl refl
      (omega (arith, changing e call called reply, plain_changing call, change_del m key, change_del n key)) (λ other now. del_both n m key other now))
      (omega arith)

  keeps_get : (e : Entry) (key : List ℕ) → e.call ≡ calls.Get key → e.reply ≡ calls.answer_of (after seen) (calls.Get key) → KeepsUp (seen ++ e ∷ []) (h ++ answered_entry h (calls.Get key) ∷ [])
  keeps_get e key called reply =
      let call = calls.Get key in
      let m = after seen in
      let n = after h in
      keeps_entry e call called reply
      (covers_still m n m n _ _ _ _ up.keys (omega (arith, news e call called reply, plain_news call, new_get m key, new_get n key)) (λ other now. now))
      (covers_still n m n m _ _ _ _ up.changed (omega (arith, changing e call called reply, plain_changing call, change_get m key, change_get n key)) (λ other now. now))
      (omega arith)

  -- Calls without an entry.
  skips_entry : (call : calls.Call) → Covers (after seen) (calls.map_after (after h) call) (new_keys seen) (new_keys (h ++ answered_entry h call ∷ []))
      → Covers (calls.map_after (after h) call) (after seen) (changes seen) (changes (h ++ answered_entry h call ∷ [])) → KeepsUp seen (h ++ answered_entry h call ∷ [])
  skips_entry call keys changed =
      let plain = after-push h (answered_entry h call) in record {
        keys = covers_at _ _ _ _ _ _ refl plain keys;
        changed = covers_at _ _ _ _ _ _ plain refl changed;
        longest = omega (arith, longest_new-push h (answered_entry h call), up.longest);
        legal = legal-push h (answered_entry h call) up.legal refl;
      }

  skips_put : (key value : List ℕ) → KeepsUp seen (h ++ answered_entry h (calls.Put key value) ∷ [])
  skips_put key value =
      let call = calls.Put key value in
      skips_entry call (by (has_key (after h) key) refl)
      (covers_still (after h) (after seen) (with (after h) key value) (after seen) _ _ _ _ up.changed (omega (arith, plain_changing call)) (λ other now. put_behind (after h) (after seen) key other value now))
    where
      by : (s : Bool) → has_key (after h) key ≡ s → Covers (after seen) (with (after h) key value) (new_keys seen) (new_keys (h ++ answered_entry h (calls.Put key value) ∷ []))
      by true is = covers_still (after seen) (after h) (after seen) (with (after h) key value) _ _ _ _ up.keys (omega (arith, plain_news (calls.Put key value)))
          (λ other now. put_there (after seen) (after h) key other value is (put_ahead (after seen) (after h) key other value now) now)
      by false is =
          let one : is_new (calls.answer_of (after h) (calls.Put key value)) ≡ 1 = ap (λ s. is_new (cond s calls.Set calls.New)) is in
          covers_more (after seen) (after h) (after seen) (with (after h) key value) _ _ _ _ up.keys key (omega (arith, plain_news (calls.Put key value), one)) (λ other now. put_ahead (after seen) (after h) key other value now)

  skips_del : (key : List ℕ) → KeepsUp seen (h ++ answered_entry h (calls.Del key) ∷ [])
  skips_del key =
      let call = calls.Del key in
      skips_entry call (covers_still (after seen) (after h) (after seen) (without (after h) key) _ _ _ _ up.keys (omega (arith, plain_news call)) (λ other now. del_ahead (after seen) (after h) key other now))
      (by (has_key (after h) key) refl)
    where
      by : (s : Bool) → has_key (after h) key ≡ s → Covers (without (after h) key) (after seen) (changes seen) (changes (h ++ answered_entry h (calls.Del key) ∷ []))
      by false is = covers_still (after h) (after seen) (without (after h) key) (after seen) _ _ _ _ up.changed (omega (arith, plain_changing (calls.Del key)))
          (λ other now. del_absent (after h) (after seen) key other is (del_behind (after h) (after seen) key other now) now)
      by true is =
          let one : is_change (calls.answer_of (after h) (calls.Del key)) ≡ 1 = ap (λ s. is_change (cond s calls.Gone calls.Absent)) is in
          covers_more (after h) (after seen) (without (after h) key) (after seen) _ _ _ _ up.changed key (omega (arith, plain_changing (calls.Del key), one)) (λ other now. del_behind (after h) (after seen) key other now)

  skips_get : (key : List ℕ) → KeepsUp seen (h ++ answered_entry h (calls.Get key) ∷ [])
  skips_get key =
      let call = calls.Get key in
      skips_entry call (covers_still (after seen) (after h) (after seen) (after h) _ _ _ _ up.keys (omega (arith, plain_news call)) (λ other now. now))
      (covers_still (after h) (after seen) (after h) (after seen) _ _ _ _ up.changed (omega (arith, plain_changing call)) (λ other now. now))

-- parts put nothing
record PutsNothing (m : Pairs (List ℕ)) (entries : List Entry) : Type 0 where
  keys : new_keys entries ≡ 0
  longest : longest_new entries ≡ 0
  changed : changes entries ≡ 0
  kept : map_from m entries ≡ m

parts_put_nothing : (m : Pairs (List ℕ)) (from to : Bound) (most : ℕ) (entries : List Entry) (last : Bound) → AreParts from to most entries last → IsLegalFrom m entries → PutsNothing m entries
parts_put_nothing m from to most [] last parts legal = record { keys = refl; longest = refl; changed = refl; kept = refl }
parts_put_nothing m from to most (e ∷ entries) last parts legal =
    let upto = parts.0 in
    let same : calls.map_after m e.call ≡ m = ap (calls.map_after m) parts.1 in
    let rest = parts_put_nothing m upto to (most - length (pairs_in e.reply)) entries last parts.5 (subst (λ k. IsLegalFrom k entries) same legal.1) in
    let reply : e.reply ≡ calls.Pairs (between m from upto) = legal.0 ∙ ap (calls.answer_of m) parts.1 in
    let new : is_new e.reply ≡ 0 = ap is_new reply in
    let long : new_length e.call e.reply ≡ 0 = ap (λ c. new_length c e.reply) parts.1 in
    let change : is_change e.reply ≡ 0 = ap is_change reply in record {
      keys = omega (arith, new, rest.keys);
      longest = omega (arith, long, rest.longest);
      changed = omega (arith, change, rest.changed);
      kept = ap (λ k. map_from k entries) same ∙ rest.kept;
    }

module _ (limit : Option ℕ) (lane : ℕ) (sole : Bool) (fits : List Entry → Type 0) (seen h : List Entry) (x : Exchange) (up : KeepsUp seen h) (legal : IsLegalFrom (after seen) x.entries) where
  -- no entry
  keeps_still : (plain : List Entry) → x.entries ≡ [] → KeepsUp seen plain → KeepsUp (seen ++ x.entries) plain
  keeps_still plain none still = subst (λ w. KeepsUp (seen ++ w) plain) (sym none) (subst (λ w. KeepsUp w plain) (sym (append-nil seen)) still)

  -- one entry
  keeps_answered : (call : calls.Call) (plain : List Entry) → ((e : Entry) → e.call ≡ call → e.reply ≡ calls.answer_of (after seen) call → KeepsUp (seen ++ e ∷ []) plain) → IsAnswered call x → KeepsUp (seen ++ x.entries) plain
  keeps_answered call plain keeps is =
      let one : IsLegalFrom (after seen) (is.entry ∷ []) = subst (IsLegalFrom (after seen)) is.only legal in
      subst (λ w. KeepsUp (seen ++ w) plain) (sym is.only) (keeps is.entry is.called (one.0 ∙ ap (calls.answer_of (after seen)) is.called))

  -- parts
  keeps_parts : PutsNothing (after seen) x.entries → KeepsUp (seen ++ x.entries) h
  keeps_parts none =
      let same : after (seen ++ x.entries) ≡ after seen = map_from-append [] seen x.entries ∙ none.kept in record {
        keys = covers_at _ _ _ _ _ _ same refl (covers_still (after seen) (after h) (after seen) (after h) _ _ _ _ up.keys (omega (arith, new_keys-append seen x.entries, none.keys)) (λ other now. now));
        changed = covers_at _ _ _ _ _ _ refl same (covers_still (after h) (after seen) (after h) (after seen) _ _ _ _ up.changed (omega (arith, changes-append seen x.entries, none.changed)) (λ other now. now));
        longest = omega (arith, longest_new-append seen x.entries, none.longest, up.longest);
        legal = up.legal;
      }

  -- behind a piece, also one that tells a refusal
  pub keeps_piece : (asked : Asked) → IsServedAs limit lane sole fits seen x asked → KeepsUp (seen ++ x.entries) (h ++ plain_entries h asked)
  keeps_piece (Ok None) is = keeps_still (h ++ []) is.none (subst (KeepsUp seen) (sym (append-nil h)) up)
  keeps_piece (Ok (Some (asks.Put key value))) (inl is) = keeps_answered (calls.Put key value) _ (λ e called reply. keeps_put seen h up e key value called reply) is
  keeps_piece (Ok (Some (asks.Put key value))) (inr is) = keeps_still _ is.none (skips_put seen h up key value)
  keeps_piece (Ok (Some (asks.Get key))) (inl is) = keeps_answered (calls.Get key) _ (λ e called reply. keeps_get seen h up e key called reply) is
  keeps_piece (Ok (Some (asks.Get key))) (inr is) = keeps_still _ is.none (skips_get seen h up key)
  keeps_piece (Ok (Some (asks.Del key))) (inl is) = keeps_answered (calls.Del key) _ (λ e called reply. keeps_del seen h up e key called reply) is
  keeps_piece (Ok (Some (asks.Del key))) (inr is) = keeps_still _ is.none (skips_del seen h up key)
  keeps_piece (Ok (Some (asks.Scan from to most))) is = subst (KeepsUp (seen ++ x.entries)) (sym (append-nil h)) (keeps_parts (parts_put_nothing (after seen) from to most x.entries is.last is.parts legal))
  keeps_piece (Ok (Some asks.Quit)) is = keeps_still (h ++ []) is.none (subst (KeepsUp seen) (sym (append-nil h)) up)
  keeps_piece (Err (faults.Fault fault)) is = keeps_still (h ++ []) is.none (subst (KeepsUp seen) (sym (append-nil h)) up)
  keeps_piece (Err faults.NoMemory) is = absurd is

-- what keeps up with a first part is no larger than all
pub keeps_larger : (seen h : List Entry) (all : List Asked) → KeepsUp seen h → IsNoLarger seen (history_from h all)
keeps_larger seen h all up =
    let keys = up.keys.few in
    let changed = up.changed.few in
    let here : IsNoLarger seen h = record { keys = omega arith; longest = up.longest; changed = omega arith } in
    larger_then seen h (history_from h all) here (larger_from h all)
