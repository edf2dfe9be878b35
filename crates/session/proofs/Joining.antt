-- One stretch of a transcript behind another.
use Rattle.std.proofs.Common.{◌≡◌, ℕ, List, [], ◌∷◌, ◌++◌, Bool, refl, sym, ap, subst, inl, inr, append_assoc, IsTrue, Option, Some, None, Ok, Err, arith}
use Rattle.std.proofs.lemmas.List.Sums.{sum_by-append}
use Rattle.std.proofs.lemmas.List.{map-append, append-nil}
use Rattle.std.proofs.lemmas.List.Concat.{flat_map-append}
use Rattle.counts.specs.Counts.{RoseBy}
use Rattle.map_model.specs.Calls as calls
use Rattle.map_model.specs.History.{Entry, IsLegal, after, entry_of}
use Rattle.map_model.specs.Ordered.{Follows, Grows}
use Rattle.map_model.specs.declared.refusal.Refusal.{Refusal}
use Rattle.map_model.proofs.Growing.{follows_weaker, follows_then, follows_itself, grows_more, stays}
use Rattle.line_protocol.specs.declared.fault.RequestFault.TheVariants as faults
use Rattle.line_protocol.specs.declared.request.Request.TheVariants as asks
use Rattle.line_protocol.specs.Requests.{Asked}
use Rattle.patience.specs.Patience.{IsLast}
use Rattle.session.specs.Transcripts.{Exchange, HasNoRoom, IsRefused, IsServed, IsServedAs, AreServed, asked_of, entries_of, owed, EndsLast, Transcribes}

-- where there are pieces, what was last before them doesn't matter
ends_from : (x : Exchange) (pieces : List Exchange) (before other now : Option Refusal) → EndsLast (x ∷ pieces) before now → EndsLast (x ∷ pieces) other now
ends_from x [] before other now ends = ends
ends_from x (y ∷ pieces) before other now ends = ends_from y pieces before other now ends

ends-append : (p q : List Exchange) (before mid now : Option Refusal) → EndsLast p before mid → EndsLast q mid now → EndsLast (p ++ q) before now
ends-append [] q before mid now first second = subst (λ m. EndsLast q m now) first second
ends-append (x ∷ []) [] before mid now first second = subst (IsLast x.refused) (sym second) first
ends-append (x ∷ []) (y ∷ q) before mid now first second = ends_from y q mid before now second
ends-append (x ∷ y ∷ p) q before mid now first second = ends-append (y ∷ p) q before mid now first second

-- What is served behind a history is so behind an equal one, and where less fits.
module _ (limit : Option ℕ) (lane : ℕ) (sole : Bool) (fits less : List Entry → Type 0) (fewer : (h : List Entry) → fits h → less h) where
  no_room_at : (call : calls.Call) (seen now : List Entry) → (IsTrue sole → now ≡ seen) → HasNoRoom lane sole less now call → HasNoRoom lane sole fits seen call
  no_room_at (calls.Put key value) seen now same none = λ alone fit. none alone (fewer _ (subst (λ h. fits (h ++ entry_of lane h (calls.Put key value) (calls.answer_of (after h) (calls.Put key value)) ∷ [])) (sym (same alone)) fit))
  no_room_at (calls.Get key) seen now same none = none
  no_room_at (calls.Del key) seen now same none = none
  no_room_at (calls.Part from upto) seen now same none = none

  refused_at : (call : calls.Call) (x : Exchange) (seen now : List Entry) → (IsTrue sole → now ≡ seen) → IsRefused limit lane sole less now call x → IsRefused limit lane sole fits seen call x
  refused_at call x seen now same refused = record {
    refusal = refused.refusal;
    none = refused.none;
    line = refused.line;
    told = refused.told;
    may = refused.may;
    room = λ full. no_room_at call seen now same (refused.room full);
  }

  served_at : (asked : Asked) (x : Exchange) (seen now : List Entry) → (IsTrue sole → now ≡ seen) → IsServedAs limit lane sole less now x asked → IsServedAs limit lane sole fits seen x asked
  served_at (Ok None) x seen now same told = told
  served_at (Ok (Some (asks.Put key value))) x seen now same (inl answered) = inl answered
  served_at (Ok (Some (asks.Put key value))) x seen now same (inr refused) = inr (refused_at (calls.Put key value) x seen now same refused)
  served_at (Ok (Some (asks.Get key))) x seen now same (inl answered) = inl answered
  served_at (Ok (Some (asks.Get key))) x seen now same (inr refused) = inr (refused_at (calls.Get key) x seen now same refused)
  served_at (Ok (Some (asks.Del key))) x seen now same (inl answered) = inl answered
  served_at (Ok (Some (asks.Del key))) x seen now same (inr refused) = inr (refused_at (calls.Del key) x seen now same refused)
  served_at (Ok (Some (asks.Scan from to most))) x seen now same scanned = scanned
  served_at (Ok (Some asks.Quit)) x seen now same told = told
  served_at (Err (faults.Fault fault)) x seen now same told = told
  served_at (Err faults.NoMemory) x seen now same told = told

  pub are_served_at : (pieces : List Exchange) (seen now : List Entry) → (IsTrue sole → now ≡ seen) → AreServed limit lane sole less now pieces → AreServed limit lane sole fits seen pieces
  are_served_at [] seen now same each = tt
  are_served_at (x ∷ pieces) seen now same each = (
    served_at x.asked x seen now same each.0,
    are_served_at pieces (seen ++ x.entries) (now ++ x.entries) (λ alone. ap (λ h. h ++ x.entries) (same alone)) each.1,
  )

served-append : (limit : Option ℕ) (lane : ℕ) (sole : Bool) (fits : List Entry → Type 0) (seen : List Entry) (p q : List Exchange) → AreServed limit lane sole fits seen p → AreServed limit lane sole fits (seen ++ entries_of p) q → AreServed limit lane sole fits seen (p ++ q)
served-append limit lane sole fits seen [] q first second = subst (λ h. AreServed limit lane sole fits h q) (append-nil seen) second
served-append limit lane sole fits seen (x ∷ p) q first second = (
  first.0,
  served-append limit lane sole fits (seen ++ x.entries) p q first.1 (subst (λ h. AreServed limit lane sole fits h q) (sym (append_assoc seen x.entries (entries_of p))) second),
)

module _ (limit : Option ℕ) (lane : ℕ) (sole : Bool) (fits : List Entry → Type 0) where
  -- one stretch behind another
  transcribes_join : (less : List Entry → Type 0) (i j k : ℕ) (u v w : Option Refusal) (A B C : List Asked → Type 0) (S T U : List Exchange → Type 0) (old mid new : List Entry)
      → ((h : List Entry) → fits h → less h) → ((xs ys : List Asked) → A xs → B ys → C (xs ++ ys)) → ((xs ys : List Exchange) → A (asked_of xs) → S xs → T ys → U (xs ++ ys))
      → Transcribes limit lane sole fits i j u v A S old mid → Transcribes limit lane sole less j k v w B T mid new → Transcribes limit lane sole fits i k u w C U old new
  transcribes_join less i j k u v w A B C S T U old mid new fewer ask say p q = record {
    pieces = p.pieces ++ q.pieces;
    asked = subst C (sym (map-append (λ (x : Exchange). x.asked) p.pieces q.pieces)) (ask _ _ p.asked q.asked);
    said = say _ _ p.asked p.said q.said;
    grows = subst (λ E. Grows lane sole E old new) (sym (flat_map-append (λ (x : Exchange). x.entries) p.pieces q.pieces)) (grows_more lane sole (entries_of p.pieces) (entries_of q.pieces) old mid new p.grows q.grows);
    each = served-append limit lane sole fits old p.pieces q.pieces p.each (are_served_at limit lane sole fits less fewer q.pieces (old ++ entries_of p.pieces) mid p.grows.alone q.each);
    rose = omega (arith, sum_by-append (owed limit) p.pieces q.pieces, p.rose, q.rose);
    ends = ends-append p.pieces q.pieces u v w p.ends q.ends;
  }

  pub transcribes_then : (a b c : List Entry → Type 0) (less : List Entry → Type 0) (i j k : ℕ) (u v w : Option Refusal) (A B C : List Asked → Type 0) (S T U : List Exchange → Type 0)
      → ((h : List Entry) → fits h → less h) → ((xs ys : List Asked) → A xs → B ys → C (xs ++ ys)) → ((xs ys : List Exchange) → A (asked_of xs) → S xs → T ys → U (xs ++ ys))
      → Follows a b (Transcribes limit lane sole fits i j u v A S) → Follows b c (Transcribes limit lane sole less j k v w B T) → Follows a c (Transcribes limit lane sole fits i k u w C U)
  transcribes_then a b c less i j k u v w A B C S T U fewer ask say = follows_then a b c _ _ _ (λ old mid new p q. transcribes_join less i j k u v w A B C S T U old mid new fewer ask say p q)

  -- what was asked and said is told otherwise
  pub transcribes_told : (a b : List Entry → Type 0) (i j : ℕ) (u v : Option Refusal) (A B : List Asked → Type 0) (S T : List Exchange → Type 0)
      → ((xs : List Asked) → A xs → B xs) → ((xs : List Exchange) → S xs → T xs) → Follows a b (Transcribes limit lane sole fits i j u v A S) → Follows a b (Transcribes limit lane sole fits i j u v B T)
  transcribes_told a b i j u v A B S T ask say = follows_weaker a b _ _ (λ old new p. record {
    pieces = p.pieces;
    asked = ask _ p.asked;
    said = say _ p.said;
    grows = p.grows;
    each = p.each;
    rose = p.rose;
    ends = p.ends;
  })

  -- and by what was asked
  pub transcribes_ends : (a b : List Entry → Type 0) (i j : ℕ) (u v : Option Refusal) (A B : List Asked → Type 0) (S T : List Exchange → Type 0)
      → ((xs : List Asked) → A xs → B xs) → ((xs : List Exchange) → A (asked_of xs) → S xs → T xs) → Follows a b (Transcribes limit lane sole fits i j u v A S) → Follows a b (Transcribes limit lane sole fits i j u v B T)
  transcribes_ends a b i j u v A B S T ask say = follows_weaker a b _ _ (λ old new p. record {
    pieces = p.pieces;
    asked = ask _ p.asked;
    said = say _ p.asked p.said;
    grows = p.grows;
    each = p.each;
    rose = p.rose;
    ends = p.ends;
  })

  -- nothing is asked
  pub transcribes_none : (a : List Entry → Type 0) (i : ℕ) (u : Option Refusal) (A : List Asked → Type 0) (S : List Exchange → Type 0) → ((old : List Entry) → a old → IsLegal old) → A [] → S [] → Follows a a (Transcribes limit lane sole fits i i u u A S)
  transcribes_none a i u A S legal ask say = follows_itself a _ (λ old history. record {
    pieces = [];
    asked = ask;
    said = say;
    grows = stays lane sole old (legal old history);
    each = tt;
    rose = omega arith;
    ends = refl;
  })

  -- one piece
  pub transcribes_one : (i j : ℕ) (u v : Option Refusal) (A : List Asked → Type 0) (S : List Exchange → Type 0) (old new : List Entry) (x : Exchange)
      → A (x.asked ∷ []) → S (x ∷ []) → Grows lane sole x.entries old new → IsServed limit lane sole fits old x → RoseBy (owed limit x) i j → IsLast x.refused v → Transcribes limit lane sole fits i j u v A S old new
  transcribes_one i j u v A S old new x ask say grows served rose last = record {
    pieces = x ∷ [];
    asked = ask;
    said = say;
    grows = subst (λ E. Grows lane sole E old new) (sym (append-nil x.entries)) grows;
    each = (served, tt);
    rose = omega (arith, rose);
    ends = last;
  }

  -- behind them the store rests or wakes
  pub transcribes_rest : (a b c : List Entry → Type 0) (i j k : ℕ) (u v w : Option Refusal) (A : List Asked → Type 0) (S : List Exchange → Type 0) → k ≡ j → w ≡ v
      → Follows a b (Transcribes limit lane sole fits i j u v A S) → Follows b c (λ old new. new ≡ old) → Follows a c (Transcribes limit lane sole fits i k u w A S)
  transcribes_rest a b c i j k u v w A S same last first second =
      follows_then a b c _ _ _ (λ old mid new p q. subst (λ n. Transcribes limit lane sole fits i k u w A S old n) (sym q) (subst (λ m. Transcribes limit lane sole fits i m u w A S old mid) (sym same) (subst (λ m. Transcribes limit lane sole fits i j u m A S old mid) (sym last) p))) first second
