-- The hash of a longer prefix, from that of a shorter one.
use Rattle.std.proofs.Common.{◌≡◌, ℕ, ◌-◌, ◌≤◌, List, [], ◌∷◌, ◌++◌, length, take, drop, zero, suc, refl, sym, ap, ◌∙◌, arith}
use Rattle.std.proofs.lemmas.List.{take-append-drop, take_rest}
use Rattle.key_bytes.specs.Fnv.{hash_from, prefix_hash}
use Rattle.key_bytes.proofs.Hashes.{prefix_hash-append}

take_nothing : (n : ℕ) → ◌≡◌ {A = List ℕ} [] (take n [])
take_nothing zero = refl
take_nothing (suc n) = refl

take_on : (i j : ℕ) (xs : List ℕ) → i ≤ j → take j xs ≡ take i xs ++ take (j - i) (drop i xs)
take_on zero j xs le = let same : j ≡ j - zero = omega arith in ap (λ (n : ℕ). take n xs) same
take_on (suc i) zero xs le = absurd (omega arith)
take_on (suc i) (suc j) [] le = take_nothing (suc j - suc i)
take_on (suc i) (suc j) (x ∷ xs) le = let same : j - i ≡ suc j - suc i = omega arith in ap (λ (l : List ℕ). x ∷ l) (take_on i j xs (omega arith)) ∙ ap (λ (n : ℕ). x ∷ (take i xs ++ take n (drop i xs))) same

-- the hash of the first j bytes, from that of the first i and the bytes between
pub hash_on : (salt hash further i j : ℕ) (xs : List ℕ) → i ≤ j → hash ≡ prefix_hash salt (take i xs) → further ≡ hash_from hash (take (j - i) (drop i xs)) → further ≡ prefix_hash salt (take j xs)
hash_on salt hash further i j xs le h f =
    f ∙ (ap (λ (n : ℕ). hash_from n (take (j - i) (drop i xs))) h
    ∙ (sym (prefix_hash-append salt (take i xs) (take (j - i) (drop i xs))) ∙ ap (prefix_hash salt) (sym (take_on i j xs le))))

-- the hash of all bytes, from that of the first i and the rest
pub hash_whole : (salt hash whole i : ℕ) (xs : List ℕ) → hash ≡ prefix_hash salt (take i xs) → whole ≡ hash_from hash (take (length xs - i) (drop i xs)) → whole ≡ prefix_hash salt xs
hash_whole salt hash whole i xs h w =
    w ∙ (ap (hash_from hash) (take_rest xs i)
    ∙ (ap (λ (n : ℕ). hash_from n (drop i xs)) h
    ∙ (sym (prefix_hash-append salt (take i xs) (drop i xs)) ∙ ap (prefix_hash salt) (take-append-drop i xs))))
