-- The numbers of a list of samples: what is done to the list is done to the numbers.
use Rattle.std.proofs.Common.{◌≡◌, sym, ◌∙◌, ap, ap₂, List, ℕ, ◌<◌, zero, suc, refl, ◌∷◌, ◌++◌, map, length, get_or, take, drop, set, replicate}
use Rattle.std.proofs.lemmas.List.{map-set, map-append, take-map, drop-map, length-map, get_or-map}
use borrow.Rule.Slice.PartMut.{put_mid}

-- what f makes of an element a that was read
pub map-at : {A B : Type 0} (f : A → B) (xs : List A) (i : ℕ) {a : A} (d : B) → i < length xs → a ≡ get_or xs i a → get_or (map f xs) i d ≡ f a
map-at f xs i {a} d h e = get_or-map f xs i a d h ∙ ap f (sym e)

map-replicate : {A B : Type 0} (f : A → B) (n : ℕ) (a : A) → map f (replicate n a) ≡ replicate n (f a)
map-replicate f zero a = refl
map-replicate f (suc n) a = ap (λ (bs : List _). f a ∷ bs) (map-replicate f n a)

module _ {A : Type 0} {number : A → ℕ} {numbers : List A → List ℕ} (are : (xs : List A) → numbers xs ≡ map number xs) where
  pub numbers-length : (xs : List A) → length (numbers xs) ≡ length xs
  numbers-length xs = ap length (are xs) ∙ length-map xs number

  -- an element a that was read
  pub numbers-at : (xs : List A) (i : ℕ) {a : A} (d : ℕ) → i < length xs → a ≡ get_or xs i a → get_or (numbers xs) i d ≡ number a
  numbers-at xs i {a} d h e = ap (λ (ns : List ℕ). get_or ns i d) (are xs) ∙ map-at number xs i d h e

  pub numbers-set : (xs : List A) (i : ℕ) (a : A) → numbers (set xs i a) ≡ set (numbers xs) i (number a)
  numbers-set xs i a = rw (are, are) (map-set number xs i a)

  pub numbers-append : (xs ys : List A) → numbers (xs ++ ys) ≡ numbers xs ++ numbers ys
  numbers-append xs ys = rw (are, are, are) (map-append number xs ys)

  pub numbers-take : (n : ℕ) (xs : List A) → numbers (take n xs) ≡ take n (numbers xs)
  numbers-take n xs = rw (are, are) (sym (take-map number n xs))

  pub numbers-drop : (n : ℕ) (xs : List A) → numbers (drop n xs) ≡ drop n (numbers xs)
  numbers-drop n xs = rw (are, are) (sym (drop-map number n xs))

  -- a part of a slice
  pub numbers-part : (n i : ℕ) (xs : List A) → numbers (take n (drop i xs)) ≡ take n (drop i (numbers xs))
  numbers-part n i xs = numbers-take n (drop i xs) ∙ ap (λ (ns : List ℕ). take n ns) (numbers-drop i xs)

  -- a slice, once a part of it was written
  pub numbers-put_mid : (a n : ℕ) (xs ys : List A) → numbers (put_mid a n xs ys) ≡ put_mid a n (numbers xs) (numbers ys)
  numbers-put_mid a n xs ys =
      numbers-append (take a xs) (ys ++ drop n (drop a xs))
      ∙ ap₂ (λ (front back : List ℕ). front ++ back) (numbers-take a xs)
      (numbers-append ys (drop n (drop a xs)) ∙ ap (λ (back : List ℕ). numbers ys ++ back) (numbers-drop n (drop a xs) ∙ ap (λ (back : List ℕ). drop n back) (numbers-drop a xs)))

  pub numbers-replicate : (n : ℕ) (a : A) → numbers (replicate n a) ≡ replicate n (number a)
  numbers-replicate n a = are (replicate n a) ∙ map-replicate number n a
