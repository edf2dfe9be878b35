-- What a call does and answers, as seen through a test of keys.
use Rattle.std.proofs.Common.{◌≡◌, ℕ, List, Bool, true, false, cond, ◌&&◌, is_some, refl, sym, ap}
use mathlib.Core.Bool.{false≢true}
use Rattle.key_bytes.specs.declared.bound.Bound.{Bound}
use Rattle.map_model.specs.Maps.{Pairs, IsMap, keep, is_in}
use Rattle.map_model.specs.Calls as calls
use Rattle.map_model.specs.Calls.{Call, Get, Put, Del, Part, New, Set, Gone, Absent, found, answer_of, map_after, is_of}
use Rattle.map_model.proofs.Finds.{ascending_keep, ascending_with}
use Rattle.map_model.proofs.Kept.{find_kept, keep_with, keep_with_other, keep_without, keep_without_other}
use Rattle.map_model.proofs.Parts.{keep_keep}

-- a call leaves a map
pub ascending_after : (m : Pairs (List ℕ)) (call : Call) → IsMap m → IsMap (map_after m call)
ascending_after m (Get key) up = up
ascending_after m (Put key value) up = ascending_with m key value up
ascending_after m (Del key) up = ascending_keep _ m up
ascending_after m (Part from upto) up = up

module _ (test : List ℕ → Bool) (m : Pairs (List ℕ)) (up : IsMap m) where
  -- of a key that passes, what is kept answers as the whole
  pub answer_of-kept : (call : Call) → is_of test call ≡ true → answer_of (keep test m) call ≡ answer_of m call
  answer_of-kept (Get key) pass = ap found (find_kept test m up key pass)
  answer_of-kept (Put key value) pass = ap (λ o. cond (is_some o) Set New) (find_kept test m up key pass)
  answer_of-kept (Del key) pass = ap (λ o. cond (is_some o) Gone Absent) (find_kept test m up key pass)
  answer_of-kept (Part from upto) pass = absurd (false≢true pass)

  -- and the call changes what is kept as it changes the whole
  pub map_after-kept : (call : Call) → is_of test call ≡ true → keep test (map_after m call) ≡ map_after (keep test m) call
  map_after-kept (Get key) pass = refl
  map_after-kept (Put key value) pass = keep_with test m up key value pass
  map_after-kept (Del key) pass = keep_without test m up key
  map_after-kept (Part from upto) pass = refl

  -- a call of another key, or of none, leaves what is kept
  pub map_after-kept_other : (call : Call) → is_of test call ≡ false → keep test (map_after m call) ≡ keep test m
  map_after-kept_other (Get key) fail = refl
  map_after-kept_other (Put key value) fail = keep_with_other test m up key value fail
  map_after-kept_other (Del key) fail = keep_without_other test m up key fail
  map_after-kept_other (Part from upto) fail = refl

  -- a part whose keys all pass is that part of what is kept
  pub answer_of-kept_part : (from upto : Bound) → ((k : List ℕ) → is_in from upto k ≡ true → test k ≡ true) → answer_of (keep test m) (Part from upto) ≡ answer_of m (Part from upto)
  answer_of-kept_part from upto inside = ap calls.Pairs (keep_keep m up test (is_in from upto) (is_in from upto) (λ k. both (is_in from upto k) (test k) (inside k)))
    where
      both : (a b : Bool) → (a ≡ true → b ≡ true) → a ≡ (b && a)
      both true b pass = sym (ap (λ x. x && true) (pass refl))
      both false true pass = refl
      both false false pass = refl
