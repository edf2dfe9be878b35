-- What one more entry, or some more, mean for a history.
use Rattle.std.proofs.Common.{◌≡◌, ℕ, ◌+◌, List, [], ◌∷◌, ◌++◌, length, refl, sym, ap, ◌∙◌, subst, arith, append_assoc, eqb, cond, inl, inr}
use mathlib.Core.List.{IsPrefix}
use Rattle.std.proofs.lemmas.List.{append-nil}
use Rattle.std.proofs.lemmas.List.Elements.{filter-append}
use Rattle.std.proofs.lemmas.Bool.{eq-eqb, ne_eqb, cases_eq}
use Rattle.map_model.specs.Maps.{Pairs, IsMap}
use Rattle.map_model.proofs.KeptCalls.{ascending_after}
use Rattle.map_model.specs.Calls.{answer_of, map_after}
use Rattle.map_model.specs.History.{Entry, map_from, after, IsLegalFrom, IsLegal, own, CountsFrom, IsNumbered}

pub map_from-append : (m : Pairs (List ℕ)) (h more : List Entry) → map_from m (h ++ more) ≡ map_from (map_from m h) more
map_from-append m [] more = refl
map_from-append m (e ∷ h) more = map_from-append (map_after m e.call) h more

pub after-push : (h : List Entry) (e : Entry) → after (h ++ e ∷ []) ≡ map_after (after h) e.call
after-push h e = map_from-append [] h (e ∷ [])

pub legal-append : (m : Pairs (List ℕ)) (h more : List Entry) → IsLegalFrom m h → IsLegalFrom (map_from m h) more → IsLegalFrom m (h ++ more)
legal-append m [] more front back = back
legal-append m (e ∷ h) more front back = (front.0, legal-append (map_after m e.call) h more front.1 back)

pub legal-parts : (m : Pairs (List ℕ)) (h more : List Entry) → IsLegalFrom m (h ++ more) → IsLegalFrom m h × IsLegalFrom (map_from m h) more
legal-parts m [] more all = (tt, all)
legal-parts m (e ∷ h) more all = let rest = legal-parts (map_after m e.call) h more all.1 in ((all.0, rest.0), rest.1)

pub legal-push : (h : List Entry) (e : Entry) → IsLegal h → e.reply ≡ answer_of (after h) e.call → IsLegal (h ++ e ∷ [])
legal-push h e legal reply = legal-append [] h (e ∷ []) legal (reply, tt)

-- each reply is the answer of the map after the entries before it
pub legal-at : (front : List Entry) (e : Entry) (back : List Entry) → IsLegal (front ++ e ∷ back) → e.reply ≡ answer_of (after front) e.call
legal-at front e back legal = (legal-parts [] front (e ∷ back) legal).1.0

-- a history leaves a map
pub ascending_from : (m : Pairs (List ℕ)) (h : List Entry) → IsMap m → IsMap (map_from m h)
ascending_from m [] up = up
ascending_from m (e ∷ h) up = ascending_from (map_after m e.call) h (ascending_after m e.call up)

pub ascending_history : (h : List Entry) → IsMap (after h)
ascending_history h = ascending_from [] h tt

pub legal-prefix : (h all : List Entry) → IsPrefix h all → IsLegal all → IsLegal h
legal-prefix h all begins legal = (legal-parts [] h begins.0 (subst IsLegal (sym begins.1) legal)).0

pub own-append : (lane : ℕ) (h more : List Entry) → own lane (h ++ more) ≡ own lane h ++ own lane more
own-append lane h more = filter-append (λ (e : Entry). eqb e.lane lane) h more

pub own-push : (lane : ℕ) (h : List Entry) (e : Entry) → e.lane ≡ lane → own lane (h ++ e ∷ []) ≡ own lane h ++ e ∷ []
own-push lane h e mine = own-append lane h (e ∷ []) ∙ ap (λ b. own lane h ++ cond b (e ∷ []) []) (eq-eqb e.lane lane mine)

pub own-push_other : (lane : ℕ) (h : List Entry) (e : Entry) → (e.lane ≡ lane → ⊥) → own lane (h ++ e ∷ []) ≡ own lane h
own-push_other lane h e other = own-append lane h (e ∷ []) ∙ (ap (λ b. own lane h ++ cond b (e ∷ []) []) (ne_eqb e.lane lane other) ∙ append-nil (own lane h))

pub counts-append : (n : ℕ) (h more : List Entry) → CountsFrom n h → CountsFrom (n + length h) more → CountsFrom n (h ++ more)
counts-append n [] more front back = subst (λ k. CountsFrom k more) (omega arith) back
counts-append n (e ∷ h) more front back = (front.0, counts-append (n + 1) h more front.1 (subst (λ k. CountsFrom k more) (omega arith) back))

pub counts-parts : (n : ℕ) (h more : List Entry) → CountsFrom n (h ++ more) → CountsFrom n h × CountsFrom (n + length h) more
counts-parts n [] more all = (tt, subst (λ k. CountsFrom k more) (omega arith) all)
counts-parts n (e ∷ h) more all = let rest = counts-parts (n + 1) h more all.1 in ((all.0, rest.0), subst (λ k. CountsFrom k more) (omega arith) rest.1)

pub numbered-push : (h : List Entry) (e : Entry) → IsNumbered h → e.number ≡ length (own e.lane h) → IsNumbered (h ++ e ∷ [])
numbered-push h e numbered number lane = elim (cases_eq e.lane lane) [
  | inl mine ↦
      let here : CountsFrom (0 + length (own lane h)) (e ∷ []) = (number ∙ (ap (λ l. length (own l h)) mine ∙ omega arith), tt) in
      subst (CountsFrom 0) (sym (own-push lane h e mine)) (counts-append 0 (own lane h) (e ∷ []) (numbered lane) here)
  | inr other ↦ subst (CountsFrom 0) (sym (own-push_other lane h e other)) (numbered lane)
]

pub numbered-prefix : (h all : List Entry) → IsPrefix h all → IsNumbered all → IsNumbered h
numbered-prefix h all begins numbered lane =
    (counts-parts 0 (own lane h) (own lane begins.0) (subst (CountsFrom 0) (ap (own lane) (sym begins.1) ∙ own-append lane h begins.0) (numbered lane))).0

-- beginnings
pub begins_itself : (h : List Entry) → IsPrefix h h
begins_itself h = ([], append-nil h)

pub begins_push : (h : List Entry) (e : Entry) → IsPrefix h (h ++ e ∷ [])
begins_push h e = (e ∷ [], refl)

pub begins_trans : (h i j : List Entry) → IsPrefix h i → IsPrefix i j → IsPrefix h j
begins_trans h i j p q = (p.0 ++ q.0, sym (append_assoc h p.0 q.0) ∙ (ap (λ w. w ++ q.0) p.1 ∙ q.1))
