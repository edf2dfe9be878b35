-- How the pairs of a page are cut out of its bytes.
use Rattle.std.proofs.Common.{◌≡◌, ℕ, zero, suc, ◌+◌, ◌-◌, ◌<◌, ◌≤◌, List, [], ◌∷◌, ◌++◌, refl, sym, subst, ap, ◌∙◌, arith, length, get_or, take, drop, slice_range, length-append, length-drop, length-take, append_assoc}
use Rattle.std.proofs.lemmas.List.{drop-drop, take-append-le, drop-append-le, take-append-drop, take_all, take_at}
use Rattle.std.proofs.Math.Seq.{drop-append_seam, take-add}
use Rattle.map_model.specs.Maps.{Pairs}
use Rattle.map_model.specs.Pages.{cut, joined, AreEnds, start_at}

pub length-cut : (bytes : List ℕ) (from : ℕ) (ends : List (ℕ × ℕ)) → length (cut bytes from ends) ≡ length ends
length-cut bytes from [] = refl
length-cut bytes from (end ∷ ends) = ap suc (length-cut bytes end.1 ends)

-- the pair at a place
pub cut-at : (bytes : List ℕ) (from : ℕ) (ends : List (ℕ × ℕ)) (i : ℕ) (p : List ℕ × List ℕ) (e : ℕ × ℕ) → i < length ends
    → get_or (cut bytes from ends) i p ≡ (slice_range bytes (start_at from ends i) (get_or ends i e).0, slice_range bytes (get_or ends i e).0 (get_or ends i e).1)
cut-at bytes from [] i p e lt = absurd (omega arith)
cut-at bytes from (end ∷ ends) zero p e lt = refl
cut-at bytes from (end ∷ ends) (suc i) p e lt = cut-at bytes end.1 ends i p e (omega arith)

-- a pair begins where the one before ended
pub start_at-suc : (from : ℕ) (ends : List (ℕ × ℕ)) (i : ℕ) (e : ℕ × ℕ) → i < length ends → start_at from ends (suc i) ≡ (get_or ends i e).1
start_at-suc from [] i e lt = absurd (omega arith)
start_at-suc from (end ∷ ends) zero e lt = refl
start_at-suc from (end ∷ ends) (suc i) e lt = start_at-suc end.1 ends i e (omega arith)

-- the places of a pair are in order, and in the bytes
pub ends-at : (from : ℕ) (ends : List (ℕ × ℕ)) (len i : ℕ) (e : ℕ × ℕ) → AreEnds from ends len → i < length ends
    → (start_at from ends i ≤ (get_or ends i e).0) × ((get_or ends i e).0 ≤ (get_or ends i e).1) × ((get_or ends i e).1 ≤ len)
ends-at from [] len i e are lt = absurd (omega arith)
ends-at from (end ∷ ends) len zero e are lt = (are.0, are.1, are.2)
ends-at from (end ∷ ends) len (suc i) e are lt = ends-at end.1 ends len i e are.3 (omega arith)

-- the end of some first pairs lies in the bytes
pub start_at-le : (from : ℕ) (ends : List (ℕ × ℕ)) (len n : ℕ) → AreEnds from ends len → n ≤ length ends → (from ≤ start_at from ends n) × (start_at from ends n ≤ len)
start_at-le from [] len zero are le = (omega arith, omega (arith, are))
start_at-le from [] len (suc n) are le = absurd (omega arith)
start_at-le from (end ∷ ends) len zero are le = (omega arith, omega (arith, are.0, are.1, are.2))
start_at-le from (end ∷ ends) len (suc n) are le =
    let rest = start_at-le end.1 ends len n are.3 (omega arith) in
    (omega (arith, are.0, are.1, rest.0), rest.1)

nothing : (n : ℕ) → 0 ≡ n - n
nothing n = omega arith

-- two cuts that meet
range_join : (bytes : List ℕ) (a b c : ℕ) → a ≤ b → b ≤ c → slice_range bytes a b ++ slice_range bytes b c ≡ slice_range bytes a c
range_join bytes a b c le le' =
    let whole : (b - a) + (c - b) ≡ c - a = omega arith in
    let there : a + (b - a) ≡ b = omega arith in
    ap (λ n. take (b - a) (drop a bytes) ++ take (c - b) (drop n bytes)) (sym there)
    ∙ ap (λ (zs : List ℕ). take (b - a) (drop a bytes) ++ take (c - b) zs) (sym (drop-drop (b - a) a bytes))
    ∙ sym (take-add (b - a) (c - b) (drop a bytes))
    ∙ ap (λ n. take n (drop a bytes)) whole

-- the bytes of some first pairs
pub joined-cut : (bytes : List ℕ) (from : ℕ) (ends : List (ℕ × ℕ)) (len n : ℕ) → AreEnds from ends len → n ≤ length ends → joined (take n (cut bytes from ends)) ≡ slice_range bytes from (start_at from ends n)
joined-cut bytes from [] len zero are le = ap (λ k. take k (drop from bytes)) (nothing from)
joined-cut bytes from [] len (suc n) are le = absurd (omega arith)
joined-cut bytes from (end ∷ ends) len zero are le = ap (λ k. take k (drop from bytes)) (nothing from)
joined-cut bytes from (end ∷ ends) len (suc n) are le =
    let upto = start_at end.1 ends n in
    let rest = start_at-le end.1 ends len n are.3 (omega arith) in
    ap (λ (zs : List ℕ). (slice_range bytes from end.0 ++ slice_range bytes end.0 end.1) ++ zs) (joined-cut bytes end.1 ends len n are.3 (omega arith))
    ∙ ap (λ (zs : List ℕ). zs ++ slice_range bytes end.1 upto) (range_join bytes from end.0 end.1 are.0 are.1)
    ∙ range_join bytes from end.1 upto (omega (arith, are.0, are.1)) rest.0

-- a cut of the front of some bytes
range_front : (xs ys : List ℕ) (a b : ℕ) → a ≤ b → b ≤ length xs → slice_range (xs ++ ys) a b ≡ slice_range xs a b
range_front xs ys a b le in_range =
    ap (take (b - a)) (drop-append-le a xs ys (omega arith)) ∙ take-append-le (b - a) (drop a xs) ys (omega (arith, length-drop a xs))

-- more bytes behind leave the pairs
pub cut-more : (bytes more : List ℕ) (from : ℕ) (ends : List (ℕ × ℕ)) → AreEnds from ends (length bytes) → cut (bytes ++ more) from ends ≡ cut bytes from ends
cut-more bytes more from [] are = refl
cut-more bytes more from (end ∷ ends) are =
    let key = range_front bytes more from end.0 are.0 (omega (arith, are.1, are.2)) in
    let value = range_front bytes more end.0 end.1 are.1 are.2 in
    ap (λ (k : List ℕ). (k, slice_range (bytes ++ more) end.0 end.1) ∷ cut (bytes ++ more) end.1 ends) key
    ∙ (ap (λ (v : List ℕ). (slice_range bytes from end.0, v) ∷ cut (bytes ++ more) end.1 ends) value
    ∙ ap (λ (t : Pairs (List ℕ)). (slice_range bytes from end.0, slice_range bytes end.0 end.1) ∷ t) (cut-more bytes more end.1 ends are.3))

-- one more pair behind the others
pub ends-push : (from : ℕ) (ends : List (ℕ × ℕ)) (len a b : ℕ) → AreEnds from ends len → len ≤ a → a ≤ b → AreEnds from (ends ++ (a, b) ∷ []) b
ends-push from [] len a b are le le' = (omega (arith, are), le', omega arith, refl)
ends-push from (end ∷ ends) len a b are le le' = (are.0, are.1, omega (arith, are.2), ends-push end.1 ends len a b are.3 le le')

pub cut-push : (bytes : List ℕ) (from : ℕ) (ends : List (ℕ × ℕ)) (len a b : ℕ) → AreEnds from ends len
    → cut bytes from (ends ++ (a, b) ∷ []) ≡ cut bytes from ends ++ (slice_range bytes len a, slice_range bytes a b) ∷ []
cut-push bytes from [] len a b are = ap (λ n. (slice_range bytes n a, slice_range bytes a b) ∷ []) are
cut-push bytes from (end ∷ ends) len a b are = ap (λ (t : Pairs (List ℕ)). (slice_range bytes from end.0, slice_range bytes end.0 end.1) ∷ t) (cut-push bytes end.1 ends len a b are.3)

-- the key and the value that were put behind
pub range_key : (bytes key value : List ℕ) → slice_range ((bytes ++ key) ++ value) (length bytes) (length (bytes ++ key)) ≡ key
range_key bytes key value =
    let count : length (bytes ++ key) - length bytes ≡ length key = omega (arith, length-append bytes key) in
    ap (λ n. take n (drop (length bytes) ((bytes ++ key) ++ value))) count
    ∙ (ap (λ (xs : List ℕ). take (length key) (drop (length bytes) xs)) (append_assoc bytes key value)
    ∙ (ap (take (length key)) (drop-append_seam bytes (key ++ value))
    ∙ (take-append-le (length key) key value (omega arith) ∙ take_all (length key) key (omega arith))))

pub range_value : (bytes key value : List ℕ) → slice_range ((bytes ++ key) ++ value) (length (bytes ++ key)) (length ((bytes ++ key) ++ value)) ≡ value
range_value bytes key value =
    let count = length ((bytes ++ key) ++ value) - length (bytes ++ key) in
    ap (take count) (drop-append_seam (bytes ++ key) value) ∙ take_all count value (omega (arith, length-append (bytes ++ key) value))

pub pushed : (bytes key value : List ℕ) (ends : List (ℕ × ℕ)) → AreEnds 0 ends (length bytes)
    → cut ((bytes ++ key) ++ value) 0 (ends ++ (length (bytes ++ key), length ((bytes ++ key) ++ value)) ∷ []) ≡ cut bytes 0 ends ++ (key, value) ∷ []
pushed bytes key value ends are =
    let all = (bytes ++ key) ++ value in
    cut-push all 0 ends (length bytes) _ _ are
    ∙ (ap (λ (t : Pairs (List ℕ)). t ++ (slice_range all (length bytes) (length (bytes ++ key)), slice_range all (length (bytes ++ key)) (length all)) ∷ []) (ap (λ b. cut b 0 ends) (append_assoc bytes key value) ∙ cut-more bytes (key ++ value) 0 ends are)
    ∙ (ap (λ (k : List ℕ). cut bytes 0 ends ++ (k, slice_range all (length (bytes ++ key)) (length all)) ∷ []) (range_key bytes key value)
    ∙ ap (λ (v : List ℕ). cut bytes 0 ends ++ (key, v) ∷ []) (range_value bytes key value)))

-- the pairs are those of the bytes that are used
pub cut-used : (bytes : List ℕ) (from : ℕ) (ends : List (ℕ × ℕ)) (used : ℕ) → AreEnds from ends used → used ≤ length bytes → cut (take used bytes) from ends ≡ cut bytes from ends
cut-used bytes from ends used are le =
    let count : length (take used bytes) ≡ used = omega (arith, length-take used bytes) in
    let of_front = subst (λ (n : ℕ). AreEnds from ends n) (sym count) are in
    sym (cut-more (take used bytes) (drop used bytes) from ends of_front) ∙ ap (λ (b : List ℕ). cut b from ends) (take-append-drop used bytes)

-- where the used bytes stay, so do the pairs
pub cut-same : (bytes others : List ℕ) (ends : List (ℕ × ℕ)) (used : ℕ) → AreEnds 0 ends used → used ≤ length bytes → used ≤ length others → take used others ≡ take used bytes → cut others 0 ends ≡ cut bytes 0 ends
cut-same bytes others ends used are le le' same = sym (cut-used others 0 ends used are le') ∙ (ap (λ (b : List ℕ). cut b 0 ends) same ∙ cut-used bytes 0 ends used are le)

-- a key and a value that were written behind the used bytes
pub pushed-over : (bytes one two key value : List ℕ) (ends : List (ℕ × ℕ)) (used : ℕ) → AreEnds 0 ends used → used ≤ length bytes
    → one ≡ take used bytes ++ (key ++ drop (used + length key) bytes)
    → two ≡ take (used + length key) one ++ (value ++ drop (used + length key + length value) one)
    → cut two 0 (ends ++ (used + length key, used + length key + length value) ∷ []) ≡ cut bytes 0 ends ++ (key, value) ∷ []
pushed-over bytes one two key value ends used are le first second =
    let front = take used bytes in
    let count : length front ≡ used = omega (arith, length-take used bytes) in
    let of_front = subst (λ (n : ℕ). AreEnds 0 ends n) (sym count) are in
    let middle : length (front ++ key) ≡ used + length key = length-append front key ∙ ap (λ n. n + length key) count in
    let end : length ((front ++ key) ++ value) ≡ used + length key + length value = length-append (front ++ key) value ∙ ap (λ n. n + length value) middle in
    let rest = drop (used + length key + length value) one in
    let head : take (used + length key) one ≡ front ++ key = ap (take (used + length key)) (first ∙ sym (append_assoc front key (drop (used + length key) bytes))) ∙ take_at (front ++ key) (drop (used + length key) bytes) (used + length key) middle in
    let all : two ≡ ((front ++ key) ++ value) ++ rest = second ∙ (ap (λ (b : List ℕ). b ++ (value ++ rest)) head ∙ sym (append_assoc (front ++ key) value rest)) in
    let more = ends ++ (length (front ++ key), length ((front ++ key) ++ value)) ∷ [] in
    let are_more = ends-push 0 ends (length front) (length (front ++ key)) (length ((front ++ key) ++ value)) of_front (omega (arith, length-append front key)) (omega (arith, length-append (front ++ key) value)) in
    ap (λ (n : ℕ). cut two 0 (ends ++ (n, used + length key + length value) ∷ [])) (sym middle)
    ∙ (ap (λ (n : ℕ). cut two 0 (ends ++ (length (front ++ key), n) ∷ [])) (sym end)
    ∙ (ap (λ (b : List ℕ). cut b 0 more) all
    ∙ (cut-more ((front ++ key) ++ value) rest 0 more are_more
    ∙ (pushed front key value ends of_front ∙ ap (λ (t : Pairs (List ℕ)). t ++ (key, value) ∷ []) (cut-used bytes 0 ends used are le)))))
