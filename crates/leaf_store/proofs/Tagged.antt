-- What tags say of rows.
use Rattle.std.proofs.Common.{◌≡◌, ℕ, ◌+◌, ◌<◌, List, [], ◌∷◌, ◌++◌, true, false, Some, None, Option, refl, sym, ap, ◌∙◌, subst, length, get_or, set, arith, true≢false, zero-add}
use Rattle.std.specs.List.{Contains}
use Rattle.std.specs.List.Sorted.{IsPermutation}
use Rattle.key_bytes.specs.Order.{is_same}
use Rattle.leaf_store.specs.Tag.{tag_of}
use Rattle.map_model.specs.Halves.{key_at}
use Rattle.map_model.specs.Maps.{Pairs, find}
use Rattle.map_model.proofs.Halves.{key_at-pair}
use Rattle.key_bytes.proofs.Orders.{same_itself}
use Rattle.leaf_store.specs.Rows.{bit, is_pair, times, places, AreTags}
use Rattle.leaf_store.proofs.Unsorted.{total_permutation, total_append, found_contains}
use Rattle.leaf_store.proofs.Places.{times_contains, contains_times, length-places, get_or-places, places_append, places_same, times_places}

some_row : {V : Type 0} (rows : Pairs V) → 0 < length rows → List ℕ × V
some_row [] lt = absurd (omega arith)
some_row (x ∷ rows) lt = x

module _ {V : Type 0} (salt : ℕ) (rows : Pairs V) (pairs : List (ℕ × ℕ)) (tags : AreTags salt rows pairs) where
  -- a tag's place is that of a row
  pub tag_row : (tag place : ℕ) → Contains pairs (tag, place) → place < length rows
  tag_row tag place has =
      let q : ℕ × ℕ = (tag, place) in
      let n = contains_times q pairs has.0 has.1 has.2 in
      let e = tags q in
      let h = times_places salt q 0 rows (omega arith) in
      let a = h.1 in
      let b = h.2 in
      omega arith

  -- and the tag is that of the row's key
  pub key_tagged : (tag place : ℕ) → Contains pairs (tag, place) → tag ≡ tag_of salt (key_at rows place)
  key_tagged tag place has =
      let q : ℕ × ℕ = (tag, place) in
      let n = contains_times q pairs has.0 has.1 has.2 in
      let e = tags q in
      let h = times_places salt q 0 rows (omega arith) in
      let lt : h.0 < length rows = h.1 in
      let same : h.0 ≡ place = (let p = h.2 in omega arith) in
      let d = some_row rows (omega arith) in
      h.3 d ∙ (ap (tag_of salt) (sym (key_at-pair rows h.0 d lt)) ∙ ap (λ k. tag_of salt (key_at rows k)) same)

  -- and each row's tag is there
  pub row_tag : (place : ℕ) (d : List ℕ × V) → place < length rows → Contains pairs (tag_of salt (get_or rows place d).0, place)
  row_tag place d lt =
      let q : ℕ × ℕ = (tag_of salt (get_or rows place d).0, place) in
      let at : get_or (places salt 0 rows) place q ≡ q = get_or-places salt 0 rows place q d lt ∙ ap (λ n. (tag_of salt (get_or rows place d).0, n)) (zero-add place) in
      let n = contains_times q (places salt 0 rows) place (omega (arith, length-places salt 0 rows)) at in
      let e = tags q in
      times_contains q pairs (omega arith)

  pub tag_there : (tag place : ℕ) → place < length rows → ((d : List ℕ × V) → tag ≡ tag_of salt (get_or rows place d).0) → Contains pairs (tag, place)
  tag_there tag place lt is =
      let d = some_row rows (omega arith) in
      subst (λ t. Contains pairs (t, place)) (sym (is d)) (row_tag place d lt)

  -- where no row of the key's tag has the key, no row has it
  pub none_tagged : (key : List ℕ) → ((place : ℕ) (d : List ℕ × V) → Contains pairs (tag_of salt key, place) → is_same (get_or rows place d).0 key ≡ false) → find rows key ≡ None
  none_tagged key each = sides (find rows key) refl
    where
      sides : (o : Option V) → find rows key ≡ o → find rows key ≡ None
      sides None e = e
      sides (Some v) e =
          let has = found_contains rows key v e in
          let at : (get_or rows has.0 (key, v)).0 ≡ key = ap (λ (p : List ℕ × V). p.0) has.2 in
          let tag = row_tag has.0 (key, v) has.1 in
          let no = each has.0 (key, v) (subst (λ k. Contains pairs (tag_of salt k, has.0)) at tag) in
          absurd (true≢false (sym (subst (λ k. is_same k key ≡ true) (sym at) (same_itself key)) ∙ no))

  -- a new row at the end
  pub tags_added : (row : List ℕ × V) (more : List (ℕ × ℕ)) → IsPermutation ((tag_of salt row.0, length rows) ∷ pairs) more → AreTags salt (rows ++ row ∷ []) more
  tags_added row more p q =
      let e = tags q in
      let n = total_permutation (λ (x : ℕ × ℕ). bit (is_pair q x)) _ more p in
      let z : 0 + length rows ≡ length rows = zero-add (length rows) in
      let parts : times q (places salt 0 (rows ++ row ∷ [])) ≡ times q (places salt 0 rows) + times q ((tag_of salt row.0, 0 + length rows) ∷ []) = ap (times q) (places_append salt 0 rows (row ∷ [])) ∙ total_append (λ (x : ℕ × ℕ). bit (is_pair q x)) (places salt 0 rows) ((tag_of salt row.0, 0 + length rows) ∷ []) in
      let same : bit (is_pair q (tag_of salt row.0, 0 + length rows)) ≡ bit (is_pair q (tag_of salt row.0, length rows)) = ap (λ n. bit (is_pair q (tag_of salt row.0, n))) z in
      omega arith

  -- a value written over
  pub tags_set : (i : ℕ) (y d : List ℕ × V) → i < length rows → (get_or rows i d).0 ≡ y.0 → AreTags salt (set rows i y) pairs
  tags_set i y d lt same q = tags q ∙ ap (times q) (sym (places_same salt 0 rows i y d lt same))
