-- A plain map's histories go on by each call.
use Rattle.std.proofs.Common.{◌≡◌, ℕ, List, [], ◌∷◌, ◌++◌, true, refl, sym, ap, ◌∙◌}
use Rattle.map_model.specs.Calls.{Call, Reply, answer_of, map_after}
use Rattle.map_model.specs.Maps.{Pairs}
use Rattle.map_model.specs.History.{Entry, IsLegal, entry_of}
use Rattle.map_model.specs.Ordered.{Follows, Enters, EntersLast}
use Rattle.map_model.specs.Plain.{IsHistoryOf}
use Rattle.map_model.proofs.Histories.{after-push, legal-push, numbered-push, own-push, begins_push}
use Rattle.map_model.proofs.Filters.{all_append}

-- the call with the map's answer goes behind each history of the map, and leaves a history of the map afterwards
pub plain_enters : (m n : Pairs (List ℕ)) (call : Call) (reply : Reply) → n ≡ map_after m call → reply ≡ answer_of m call → Follows (IsHistoryOf m) (IsHistoryOf n) (EntersLast 0 true call reply)
plain_enters m n call reply after_is reply_is old history =
    let e = entry_of 0 old call reply in
    let legal : IsLegal (old ++ e ∷ []) = legal-push old e history.legal (reply_is ∙ ap (λ p. answer_of p call) (sym history.map)) in (
      old ++ e ∷ [],
      record {
        legal = legal;
        numbered = numbered-push old e history.numbered refl;
        lane = all_append (λ (e : Entry). e.lane ≡ 0) old (e ∷ []) history.lane (refl, tt);
        map = after-push old e ∙ (ap (λ p. map_after p call) history.map ∙ sym after_is);
      },
      record {
        enters = record { begins = begins_push old e; legal = legal; mine = own-push 0 old e refl; alone = λ _. refl };
        last = (old, refl);
      },
    )

pub plain_enters_only : (m n : Pairs (List ℕ)) (call : Call) (reply : Reply) → n ≡ map_after m call → reply ≡ answer_of m call → Follows (IsHistoryOf m) (IsHistoryOf n) (Enters 0 true call reply)
plain_enters_only m n call reply after_is reply_is old history = let r = plain_enters m n call reply after_is reply_is old history in (r.0, r.1, r.2.enters)
