-- What is gained by one write behind another.
use Rattle.std.proofs.Common.{ℕ, List, [], ◌++◌, Option, Result, Ok, Err, sym, ap, ◌∙◌, append_assoc}
use Rattle.std.proofs.lemmas.List.{append-nil}
use mathlib.Core.List.{IsPrefix}
use Rattle.outside.specs.Writing.{Wrote}
use Rattle.outside.proofs.Pieces.{wrote_more}
use Rattle.session.specs.Writes.{WroteSome, Gained}

pub begins_behind : {X : Type 0} (front some all : List X) → IsPrefix some all → IsPrefix (front ++ some) (front ++ all)
begins_behind front some all begins = (begins.0, append_assoc front some begins.0 ∙ ap (λ w. front ++ w) begins.1)

pub begins_more : {X : Type 0} (some all back : List X) → IsPrefix some all → IsPrefix some (all ++ back)
begins_more some all back begins = (begins.0 ++ back, sym (append_assoc some begins.0 back) ∙ ap (λ w. w ++ back) begins.1)

pub begins_then : {X : Type 0} (a b c : List X) → IsPrefix a b → IsPrefix b c → IsPrefix a c
begins_then a b c first second = (first.0 ++ second.0, sym (append_assoc a first.0 second.0) ∙ (ap (λ w. w ++ second.0) first.1 ∙ second.1))

pub some_behind : (a b c : Option (List ℕ)) (front text : List ℕ) → Wrote a b front → WroteSome b c text → WroteSome a c (front ++ text)
some_behind a b c front text first second = (front ++ second.0, begins_behind front second.0 text second.1, wrote_more a b c front second.0 first second.2)

pub some_more : (a b : Option (List ℕ)) (text back : List ℕ) → WroteSome a b text → WroteSome a b (text ++ back)
some_more a b text back some = (some.0, begins_more some.0 text back some.1, some.2)

pub some_all : (a b : Option (List ℕ)) (text : List ℕ) → Wrote a b text → WroteSome a b text
some_all a b text wrote = (text, ([], append-nil text), wrote)

pub gained_behind : {T E : Type 0} (r : Result T E) (a b c : Option (List ℕ)) (front text : List ℕ) → Wrote a b front → Gained r b c text → Gained r a c (front ++ text)
gained_behind (Ok x) a b c front text first second = wrote_more a b c front text first second
gained_behind (Err e) a b c front text first second = some_behind a b c front text first second
