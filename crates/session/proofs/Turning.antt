-- Pieces that were written whole, and a last one that was not.
use Rattle.std.proofs.Common.{◌≡◌, ℕ, List, [], ◌∷◌, ◌++◌, Option, Result, Ok, Err, refl, sym, ap, ◌∙◌, subst, append_assoc, arith}
use Rattle.std.proofs.lemmas.List.{append-nil, map-append}
use Rattle.std.proofs.lemmas.List.Concat.{flat_map-append}
use mathlib.Core.List.{IsPrefix}
use Rattle.line_protocol.specs.Requests.{Asked}
use Rattle.outside.specs.Writing.{Wrote}
use Rattle.outside.proofs.Pieces.{wrote_none, wrote_more}
use Rattle.session.specs.Transcripts.{Exchange, asked_of, text_of}
use Rattle.session.specs.Turns.{IsTorn, WrotePieces, WritesPieces}
use Rattle.session.specs.Writes.{Gained, WroteSome}
use Rattle.session.proofs.Gaining.{begins_behind, begins_more}

pub text-append : (p q : List Exchange) → text_of (p ++ q) ≡ text_of p ++ text_of q
text-append p q = flat_map-append (λ (x : Exchange). x.text) p q

-- one piece
pub writes_one : {T E : Type 0} (r : Result T E) (a b : Option (List ℕ)) (x : Exchange) → Gained r a b x.text → WritesPieces r a b (x ∷ [])
writes_one (Ok y) a b x gained = subst (Wrote a b) (sym (append-nil x.text)) gained
writes_one (Err e) a b x gained = record {
  whole = [];
  at_hand = x ∷ [];
  parts = refl;
  one = omega arith;
  of_front = ([], refl);
  some = gained.0;
  begins = begins_more gained.0 x.text [] gained.1;
  wrote = gained.2;
}

-- memory was wanting before the first piece
pub torn_none : (a : Option (List ℕ)) → IsTorn a a [] []
torn_none a = record { whole = []; at_hand = []; parts = refl; one = omega arith; of_front = ([], refl); some = []; begins = ([], refl); wrote = wrote_none a }

-- some behind others
module _ (a b c : Option (List ℕ)) (p q : List Exchange) (first : WrotePieces a b p) where
  pub wrote_behind : WrotePieces b c q → WrotePieces a c (p ++ q)
  wrote_behind second = subst (Wrote a c) (sym (text-append p q)) (wrote_more a b c (text_of p) (text_of q) first second)

  pub torn_behind : (front : List Asked) → IsPrefix front (asked_of p) → IsTorn b c [] q → IsTorn a c front (p ++ q)
  torn_behind front begins torn = record {
    whole = p ++ torn.whole;
    at_hand = torn.at_hand;
    parts = ap (λ w. p ++ w) torn.parts ∙ sym (append_assoc p torn.whole torn.at_hand);
    one = torn.one;
    of_front = subst (IsPrefix front) (sym (map-append (λ (x : Exchange). x.asked) p torn.whole)) (begins_more front (asked_of p) (asked_of torn.whole) begins);
    some = torn.some;
    begins = torn.begins;
    wrote = subst (Wrote a c) (sym (append_assoc (text_of p) (text_of torn.whole) torn.some) ∙ ap (λ w. w ++ torn.some) (sym (text-append p torn.whole))) (wrote_more a b c (text_of p) (text_of torn.whole ++ torn.some) first torn.wrote);
  }

  pub torn_more : IsTorn b c [] q → IsTorn a c [] (p ++ q)
  torn_more torn = torn_behind [] (asked_of p, refl) torn

-- all were written before the stop
pub torn_whole : (a b : Option (List ℕ)) (p : List Exchange) (front : List Asked) → WrotePieces a b p → IsPrefix front (asked_of p) → IsTorn a b front p
torn_whole a b p front wrote begins = record {
  whole = p;
  at_hand = [];
  parts = sym (append-nil p);
  one = omega arith;
  of_front = begins;
  some = [];
  begins = ([], refl);
  wrote = subst (Wrote a b) (sym (append-nil (text_of p))) wrote;
}

-- what was written begins the text of all
pub torn_some : (a b : Option (List ℕ)) (front : List Asked) (p : List Exchange) → IsTorn a b front p → WroteSome a b (text_of p)
torn_some a b front p torn =
    let all : text_of p ≡ text_of torn.whole ++ text_of torn.at_hand = ap text_of torn.parts ∙ text-append torn.whole torn.at_hand in
    (text_of torn.whole ++ torn.some, subst (IsPrefix (text_of torn.whole ++ torn.some)) (sym all) (begins_behind (text_of torn.whole) torn.some (text_of torn.at_hand) torn.begins), torn.wrote)
