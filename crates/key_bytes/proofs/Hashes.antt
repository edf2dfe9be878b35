-- A hash goes on from the hash of the bytes before.
use Rattle.std.proofs.Common.{◌≡◌, ℕ, ◌<◌, List, [], ◌∷◌, ◌++◌, length, take, get_or, zero, suc, refl, ◌∙◌, arith}
use Rattle.key_bytes.specs.Fnv.{fnv_start, fnv_step, hash_from, prefix_hash}

pub hash_from-nil : (hash : ℕ) → hash_from hash [] ≡ hash
unfolding hash_from
hash_from-nil hash = refl

pub hash_from-cons : (hash x : ℕ) (xs : List ℕ) → hash_from hash (x ∷ xs) ≡ hash_from (fnv_step hash x) xs
unfolding hash_from
hash_from-cons hash x xs = refl

-- over one list and then another
pub hash_from-append : (hash : ℕ) (xs ys : List ℕ) → hash_from hash (xs ++ ys) ≡ hash_from (hash_from hash xs) ys
unfolding hash_from
hash_from-append hash [] ys = refl
hash_from-append hash (x ∷ xs) ys = hash_from-append (fnv_step hash x) xs ys

-- one byte more is one step
pub hash_from-push : (hash : ℕ) (xs : List ℕ) (x : ℕ) → hash_from hash (xs ++ x ∷ []) ≡ fnv_step (hash_from hash xs) x
hash_from-push hash xs x = hash_from-append hash xs (x ∷ []) ∙ (hash_from-cons (hash_from hash xs) x [] ∙ hash_from-nil (fnv_step (hash_from hash xs) x))

-- from one beginning of the bytes to the next longer one
pub hash_from-take : (hash i : ℕ) (xs : List ℕ) (d : ℕ) → i < length xs → hash_from hash (take (suc i) xs) ≡ fnv_step (hash_from hash (take i xs)) (get_or xs i d)
unfolding hash_from
hash_from-take hash i [] d below = absurd (omega arith)
hash_from-take hash zero (x ∷ xs) d below = refl
hash_from-take hash (suc i) (x ∷ xs) d below = hash_from-take (fnv_step hash x) i xs d (omega arith)

pub prefix_hash-from : (salt : ℕ) (xs : List ℕ) → prefix_hash salt xs ≡ hash_from (fnv_start salt) xs
unfolding prefix_hash
prefix_hash-from salt xs = refl

pub prefix_hash-nil : (salt : ℕ) → prefix_hash salt [] ≡ fnv_start salt
prefix_hash-nil salt = prefix_hash-from salt [] ∙ hash_from-nil (fnv_start salt)

pub prefix_hash-append : (salt : ℕ) (xs ys : List ℕ) → prefix_hash salt (xs ++ ys) ≡ hash_from (prefix_hash salt xs) ys
unfolding prefix_hash
prefix_hash-append salt xs ys = hash_from-append (fnv_start salt) xs ys

pub prefix_hash-push : (salt : ℕ) (xs : List ℕ) (x : ℕ) → prefix_hash salt (xs ++ x ∷ []) ≡ fnv_step (prefix_hash salt xs) x
unfolding prefix_hash
prefix_hash-push salt xs x = hash_from-push (fnv_start salt) xs x

pub prefix_hash-take : (salt i : ℕ) (xs : List ℕ) (d : ℕ) → i < length xs → prefix_hash salt (take (suc i) xs) ≡ fnv_step (prefix_hash salt (take i xs)) (get_or xs i d)
unfolding prefix_hash
prefix_hash-take salt i xs d below = hash_from-take (fnv_start salt) i xs d below
