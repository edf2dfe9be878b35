-- What some more entries do to a history's numbers.
use Rattle.std.proofs.Common.{◌≡◌, ◌+◌, ◌≤◌, List, [], ◌∷◌, ◌++◌, max, arith, subst}
use mathlib.Core.List.{IsPrefix}
use Rattle.map_model.specs.History.{Entry}
use Rattle.history_sizes.specs.Sizes.{is_new, new_keys, new_length, longest_new, is_change, changes}

pub new_keys-append : (h more : List Entry) → new_keys (h ++ more) ≡ new_keys h + new_keys more
new_keys-append [] more = omega arith
new_keys-append (e ∷ h) more = omega (arith, new_keys-append h more)

pub longest_new-append : (h more : List Entry) → longest_new (h ++ more) ≡ max (longest_new h) (longest_new more)
longest_new-append [] more = omega arith
longest_new-append (e ∷ h) more = omega (arith, longest_new-append h more)

pub changes-append : (h more : List Entry) → changes (h ++ more) ≡ changes h + changes more
changes-append [] more = omega arith
changes-append (e ∷ h) more = omega (arith, changes-append h more)

-- one more entry
pub new_keys-push : (h : List Entry) (e : Entry) → new_keys (h ++ e ∷ []) ≡ new_keys h + is_new e.reply
new_keys-push h e = omega (arith, new_keys-append h (e ∷ []))

pub longest_new-push : (h : List Entry) (e : Entry) → longest_new (h ++ e ∷ []) ≡ max (longest_new h) (new_length e.call e.reply)
longest_new-push h e = omega (arith, longest_new-append h (e ∷ []))

pub changes-push : (h : List Entry) (e : Entry) → changes (h ++ e ∷ []) ≡ changes h + is_change e.reply
changes-push h e = omega (arith, changes-append h (e ∷ []))

-- a longer history has no less of each
pub new_keys-longer : (h more : List Entry) → new_keys h ≤ new_keys (h ++ more)
new_keys-longer h more = omega (arith, new_keys-append h more)

pub longest_new-longer : (h more : List Entry) → longest_new h ≤ longest_new (h ++ more)
longest_new-longer h more = omega (arith, longest_new-append h more)

pub changes-longer : (h more : List Entry) → changes h ≤ changes (h ++ more)
changes-longer h more = omega (arith, changes-append h more)

pub new_keys-begins : (h all : List Entry) → IsPrefix h all → new_keys h ≤ new_keys all
new_keys-begins h all begins = subst (λ (l : List Entry). new_keys h ≤ new_keys l) begins.1 (new_keys-longer h begins.0)

pub longest_new-begins : (h all : List Entry) → IsPrefix h all → longest_new h ≤ longest_new all
longest_new-begins h all begins = subst (λ (l : List Entry). longest_new h ≤ longest_new l) begins.1 (longest_new-longer h begins.0)

pub changes-begins : (h all : List Entry) → IsPrefix h all → changes h ≤ changes all
changes-begins h all begins = subst (λ (l : List Entry). changes h ≤ changes l) begins.1 (changes-longer h begins.0)
