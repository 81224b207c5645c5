-- A ring that is read from a place on: what a write and a step of that place do to it.
use Rattle.std.proofs.Common.{◌≡◌, ℕ, ◌+◌, ◌-◌, ◌<◌, ◌≤◌, min, List, [], ◌∷◌, ◌++◌, length, get_or, take, drop, set, sym, ap, ◌∙◌, ⊎_elim, add-one, arith}
use Rattle.std.proofs.lemmas.Bool.{cases_lt}
use Rattle.std.proofs.lemmas.List.{append-nil, append_assoc, length-append, length-take, length-drop, drop-set-add, drop-set-lt, take-set-le, set-append_left, set-append_right, take_more_set, take_more, drop_more, take-append-le, take_all, drop_all}
use Rattle.std.proofs.Math.Seq.{take-set-lt}
use Rattle.queue.specs.Rings.{turned, ringed, Next}

length_turned : {X : Type 0} (h : ℕ) (xs : List X) → length (turned h xs) ≡ length xs
length_turned h xs = simp (length-append, length-take, length-drop) (omega arith)

pub length_ringed : {X : Type 0} (c h : ℕ) (xs : List X) → length (ringed xs h c) ≡ min c (length xs)
length_ringed c h xs = length-take c (turned h xs) ∙ ap (min c) (length_turned h xs)

-- a ring that is read from its end on is read from its start
turned_end : {X : Type 0} (xs : List X) (h : ℕ) → length xs ≤ h → turned h xs ≡ turned 0 xs
turned_end xs h l = rw (drop_all h xs l, take_all h xs l) (sym (append-nil xs))

-- a write before the end of the records, and one that goes round
set_near : {X : Type 0} (xs : List X) (h c : ℕ) (y : X) → h + c < length xs → turned h (set xs (h + c) y) ≡ set (turned h xs) c y
set_near xs h c y l =
    let a : h ≤ h + c = omega arith in
    let b : c < length (drop h xs) = simp length-drop (omega arith) in
    rw (drop-set-add h xs c y, take-set-le h xs (h + c) y a) (sym (set-append_left (drop h xs) (take h xs) c y b))

set_round : {X : Type 0} (xs : List X) (h c : ℕ) (y : X) → h ≤ length xs → length xs ≤ h + c → c < length xs
    → turned h (set xs (c - (length xs - h)) y) ≡ set (turned h xs) c y
set_round xs h c y u l m =
    let a : c - (length xs - h) < h = omega arith in
    let n : length (drop h xs) ≡ length xs - h = length-drop h xs in
    let b : length xs - h ≤ c = omega arith in
    rw (drop-set-lt h xs (c - (length xs - h)) y a, take-set-lt h xs (c - (length xs - h)) y a)
    (sym (set-append_right (drop h xs) (take h xs) (length xs - h) c y n b))

set_next : {X : Type 0} (xs : List X) (h c i : ℕ) (y : X) → h ≤ length xs → c < length xs → Next h c (length xs) i → turned h (set xs i y) ≡ set (turned h xs) c y
set_next xs h c i y u m next =
    ⊎_elim (λ l. ap (λ k. turned h (set xs k y)) (next.1 l) ∙ set_near xs h c y l)
    (λ l. ap (λ k. turned h (set xs k y)) (next.2 l) ∙ set_round xs h c y u l m)
    (cases_lt (h + c) (length xs))

-- one more at the end, at the place after the last
pub put_at : {X : Type 0} (xs : List X) (h c i : ℕ) (y : X) → h ≤ length xs → c < length xs → Next h c (length xs) i
    → ringed (set xs i y) h (c + 1) ≡ ringed xs h c ++ y ∷ []
put_at xs h c i y u m next =
    let k : c < length (turned h xs) = rw (length_turned h xs) m in
    ap (take (c + 1)) (set_next xs h c i y u m next) ∙ take_more_set (turned h xs) c y k

-- the first goes, and the ring is read from the next place on
take_first : {X : Type 0} (xs : List X) (h c : ℕ) (d : X) → h < length xs → c < length xs → ringed xs h (c + 1) ≡ get_or xs h d ∷ ringed xs (h + 1) c
take_first xs h c d l m =
    let ys = drop (h + 1) xs ++ take h xs in
    let n : c ≤ length ys = simp (length-append, length-take, length-drop) (omega arith) in
    let p : turned h xs ≡ get_or xs h d ∷ ys = ap (λ zs. zs ++ take h xs) (drop_more xs h d l) in
    let q : turned (h + 1) xs ≡ ys ++ (get_or xs h d ∷ []) =
    ap (λ zs. drop (h + 1) xs ++ zs) (take_more xs h d l) ∙ sym (append_assoc (drop (h + 1) xs) (take h xs) (get_or xs h d ∷ [])) in
    ap (take (c + 1)) p
    ∙ rw (add-one c) (ap (λ zs. get_or xs h d ∷ zs) (sym (take-append-le c ys (get_or xs h d ∷ []) n) ∙ ap (take c) (sym q)))

pub take_at : {X : Type 0} (xs : List X) (h c i : ℕ) (d : X) → h < length xs → c < length xs → Next h 1 (length xs) i
    → ringed xs h (c + 1) ≡ get_or xs h d ∷ ringed xs i c
take_at xs h c i d l m next =
    let on : turned (h + 1) xs ≡ turned i xs =
    ⊎_elim (λ k. ap (λ j. turned j xs) (sym (next.1 k)))
    (λ k. let start : 0 ≡ i = omega (arith, next.2 k) in turned_end xs (h + 1) k ∙ ap (λ j. turned j xs) start)
    (cases_lt (h + 1) (length xs)) in
    take_first xs h c d l m ∙ ap (λ ws. get_or xs h d ∷ take c ws) on
