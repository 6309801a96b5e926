-- Laws of numbers as bytes: what they are long, one byte or word more, and there and back again.
-- Assumes nothing.
use Rattle.std.proofs.Common.{◌≡◌, ℕ, zero, suc, ◌+◌, ◌-◌, ◌*◌, ◌/◌, ◌%◌, ◌^◌, ◌<◌, ◌≤◌, List, [], ◌∷◌, ◌++◌, length, get_or, take, drop, set, replicate, sym, refl, ap, ◌∙◌, append_assoc, append-nil, div-lt_iff_lt-mul, pow-suc, add-one, arith, lit<, length-append, length-drop, length-take, length-take-le, drop-cons, take-suc, take-suc-set, drop-drop, take_at, take-add, drop_at}
use borrow.Rule.Slice.PartMut.{put_mid}
use native.Mathlib.Nat.{pow-le-pow_right}
use lib.Seq.{set_at, take-append-le, drop-append-le}
use Rattle.words.specs.Bytes.{bytes_of, number_of, word_bytes, words_of, Below}

-- ---- how long
pub length_bytes_lem : (n x : ℕ) → length (bytes_of n x) ≡ n
length_bytes_lem zero x = refl
length_bytes_lem (suc n) x = ap suc (length_bytes_lem n (x / 256))

pub length_word_bytes : (ws : List ℕ) → length (word_bytes ws) ≡ 4 * length ws
length_word_bytes [] = refl
length_word_bytes (w ∷ ws) =
    let e = length_word_bytes ws in
    let f = length-append (bytes_of 4 w) (word_bytes ws) in
    let g = length_bytes_lem 4 w in
    omega arith

pub length_words : (n : ℕ) (l : List ℕ) → length (words_of n l) ≡ n
length_words zero l = refl
length_words (suc n) l = ap suc (length_words n (drop 4 l))

-- ---- one byte more, for `put` and `get`
pub byte_more : (out : List ℕ) (x i k rest : ℕ) → i < length out → k ≡ i → ((n : ℕ) → bytes_of (i + n) x ≡ take i out ++ bytes_of n rest)
    → (n : ℕ) → bytes_of (i + 1 + n) x ≡ take (i + 1) (set out k (rest % 256)) ++ bytes_of n (rest / 256)
byte_more out x i k rest h here p n =
    let e : i + 1 + n ≡ i + suc n = omega arith in
    rw (here, e, p (suc n), add-one, take-suc-set out i (rest % 256) h, append_assoc)

pub number_step : (l : List ℕ) (j x : ℕ) → j < length l → x ≡ number_of (drop (suc j) l) → x * 256 + get_or l j 0 ≡ number_of (drop j l)
number_step l j x h e = rw (drop-cons l j 0 h) (omega arith)

-- of at most eight bytes, seven before the last
pub pow_room : (x m : ℕ) → m ≤ 7 → x < 256 ^ m → x < 256 ^ 7
pow_room x m h b = let p : 256 ^ m ≤ 256 ^ 7 = pow-le-pow_right (lit< tt) h in omega arith

pub pow_more : (x b m : ℕ) → b < 256 → x < 256 ^ m → x * 256 + b < 256 ^ suc m
pow_more x b m hb h = rw (pow-suc 256 m) (omega arith)

-- ---- one word more, for `put_words`
words_snoc : (ws : List ℕ) (w : ℕ) → word_bytes (ws ++ (w ∷ [])) ≡ word_bytes ws ++ bytes_of 4 w
words_snoc [] w = append-nil (bytes_of 4 w)
words_snoc (v ∷ ws) w =
    ap (λ (r : List ℕ). bytes_of 4 v ++ r) (words_snoc ws w) ∙ sym (append_assoc (bytes_of 4 v) (word_bytes ws) (bytes_of 4 w))

pub words_put : (out ws old bytes : List ℕ) (i k : ℕ) → i < length ws → 4 * length ws ≤ length old
    → out ≡ word_bytes (take i ws) ++ drop (4 * i) old → bytes ≡ bytes_of 4 (get_or ws i 0) → k ≡ 4
    → put_mid (4 * i) k out bytes ≡ word_bytes (take (i + 1) ws) ++ drop (4 * (i + 1)) old
words_put out ws old bytes i k h room e eb ek =
    let lt : length (take i ws) ≡ i = length-take-le i ws (omega arith) in
    let lw : length (word_bytes (take i ws)) ≡ 4 * i = length_word_bytes (take i ws) ∙ ap (λ (n : ℕ). 4 * n) lt in
    let next : 4 * i + 4 ≡ 4 * (i + 1) = omega arith in
    let dr : drop 4 (drop (4 * i) out) ≡ drop (4 * (i + 1)) old =
    ap (λ (r : List ℕ). drop 4 (drop (4 * i) r)) e
    ∙ ap (drop 4) (drop_at (word_bytes (take i ws)) (drop (4 * i) old) (4 * i) lw)
    ∙ drop-drop 4 (4 * i) old
    ∙ ap (λ (n : ℕ). drop n old) next
    in
    let ta : take (4 * i) out ≡ word_bytes (take i ws) = ap (take (4 * i)) e ∙ take_at (word_bytes (take i ws)) (drop (4 * i) old) (4 * i) lw in
    rw (ek, ta, dr, eb, add-one, take-suc ws i 0 h, words_snoc (take i ws) (get_or ws i 0), append_assoc)

-- what `put` leaves, written to a part of n bytes from a on
pub put_at : (out new : List ℕ) (a b n x : ℕ) → a + n ≡ b → b ≤ length out → new ≡ bytes_of (length (take (b - a) (drop a out))) x
    → put_mid a (b - a) out new ≡ take a out ++ bytes_of n x ++ drop (a + n) out
put_at out new a b n x e h w =
    let k : b - a ≡ n = omega arith in
    let l : length (take n (drop a out)) ≡ n = simp (length-take, length-drop) (omega arith) in
    rw (w, k, l, drop-drop n a out, append_assoc)

-- ---- one word more, for `get_words`
words_more : (n : ℕ) (l : List ℕ) → words_of (suc n) l ≡ words_of n l ++ (number_of (take 4 (drop (4 * n) l)) ∷ [])
words_more zero l = refl
words_more (suc n) l =
    let e : 4 + 4 * n ≡ 4 * suc n = omega arith in
    ap (λ (r : List ℕ). number_of (take 4 l) ∷ r)
    (words_more n (drop 4 l)
    ∙ ap (λ (r : List ℕ). words_of n (drop 4 l) ++ (number_of (take 4 r) ∷ [])) (drop-drop (4 * n) 4 l ∙ ap (λ (k : ℕ). drop k l) e))

-- in room for m words, of which ws are there and zeros behind them
pub one_more : (m i v : ℕ) (ws x : List ℕ) → length ws ≡ i → i < m → x ≡ ws ++ replicate (m - i) 0
    → set x i v ≡ (ws ++ (v ∷ [])) ++ replicate (m - (i + 1)) 0
one_more m i v ws x l h e =
    let r : m - i ≡ suc (m - (i + 1)) = omega arith in
    rw (e, r, set_at ws 0 (replicate (m - (i + 1)) 0) v i l, append_assoc)

pub word_read : (m : ℕ) (l x : List ℕ) (i k v : ℕ) → i < m → x ≡ words_of i l ++ replicate (m - i) 0 → v ≡ number_of (take k (drop (4 * i) l)) → k ≡ 4
    → set x i v ≡ words_of (i + 1) l ++ replicate (m - (i + 1)) 0
word_read m l x i k v h ex ev ek =
    let more : words_of (i + 1) l ≡ words_of i l ++ (number_of (take 4 (drop (4 * i) l)) ∷ []) = rw add-one (words_more i l) in
    rw (one_more m i v (words_of i l) x (length_words i l) h ex, more, ev, ek)

-- ---- there and back again
pub number_bytes : (n x : ℕ) → x < 256 ^ n → number_of (bytes_of n x) ≡ x
number_bytes zero x h = omega arith
number_bytes (suc n) x h =
    let e : number_of (bytes_of n (x / 256)) ≡ x / 256 = number_bytes n (x / 256) (div_less n x h) in
    rw e (omega arith)
  where
    div_less : (n x : ℕ) → x < 256 ^ suc n → x / 256 < 256 ^ n
    div_less n x h = (div-lt_iff_lt-mul {k = 256} {x = x} {y = 256 ^ n} (lit< tt)).1 (rw (pow-suc 256 n) at h)

pub bytes_number : (l : List ℕ) → Below 256 l → bytes_of (length l) (number_of l) ≡ l
bytes_number [] a = refl
bytes_number (b ∷ l) (h, a) =
    let m : (b + 256 * number_of l) % 256 ≡ b = omega arith in
    let d : (b + 256 * number_of l) / 256 ≡ number_of l = omega arith in
    rw (m, d, bytes_number l a)

pub words_back : (ws r : List ℕ) → Below (2 ^ 32) ws → words_of (length ws) (word_bytes ws ++ r) ≡ ws
words_back [] r a = refl
words_back (w ∷ ws) r (h, a) = rw (number_bytes 4 w h) (ap (λ (l : List ℕ). w ∷ l) (words_back ws r a))

pub below_take : (b n : ℕ) (l : List ℕ) → Below b l → Below b (take n l)
below_take b zero l a = tt
below_take b (suc n) [] a = tt
below_take b (suc n) (x ∷ l) (h, a) = (h, below_take b n l a)

pub below_drop : (b n : ℕ) (l : List ℕ) → Below b l → Below b (drop n l)
below_drop b zero l a = a
below_drop b (suc n) [] a = tt
below_drop b (suc n) (x ∷ l) (h, a) = below_drop b n l a

pub below_append : (n : ℕ) (a b : List ℕ) → Below n a → Below n b → Below n (a ++ b)
below_append n [] b p q = q
below_append n (x ∷ a) b (h, p) q = (h, below_append n a b p q)

-- and of a joined list both parts
pub below_parts : (n : ℕ) (a b : List ℕ) → Below n (a ++ b) → Below n a × Below n b
below_parts n [] b q = (tt, q)
below_parts n (x ∷ a) b (h, q) = let r = below_parts n a b q in ((h, r.0), r.1)

pub below_zeros : (n m : ℕ) → 0 < n → Below n (replicate m 0)
below_zeros n zero h = tt
below_zeros n (suc m) h = (h, below_zeros n m h)

-- words that are read, written again
pub words_again : (n : ℕ) (l : List ℕ) → Below 256 l → 4 * n ≤ length l → word_bytes (words_of n l) ≡ take (4 * n) l
words_again zero l a h = refl
words_again (suc n) l a h =
    let l4 : length (take 4 l) ≡ 4 = length-take-le 4 l (omega arith) in
    let ld : length (drop 4 l) ≡ length l - 4 = length-drop 4 l in
    let b : bytes_of 4 (number_of (take 4 l)) ≡ take 4 l =
    ap (λ (k : ℕ). bytes_of k (number_of (take 4 l))) (sym l4) ∙ bytes_number (take 4 l) (below_take 256 4 l a)
    in
    let e : 4 + 4 * n ≡ 4 * suc n = omega arith in
    ap (λ (r : List ℕ). r ++ word_bytes (words_of n (drop 4 l))) b
    ∙ ap (λ (r : List ℕ). take 4 l ++ r) (words_again n (drop 4 l) (below_drop 256 4 l a) (omega arith))
    ∙ sym (take-add 4 (4 * n) l)
    ∙ ap (λ (k : ℕ). take k l) e

number_below : (l : List ℕ) → Below 256 l → number_of l < 256 ^ length l
number_below [] a = omega arith
number_below (b ∷ l) (h, a) =
    let e = number_below l a in
    rw (pow-suc 256 (length l)) (omega arith)

pub words_below : (n : ℕ) (l : List ℕ) → Below 256 l → 4 * n ≤ length l → Below (2 ^ 32) (words_of n l)
words_below zero l a h = tt
words_below (suc n) l a h =
    let ld : length (drop 4 l) ≡ length l - 4 = length-drop 4 l in
    let l4 : length (take 4 l) ≡ 4 = length-take-le 4 l (omega arith) in
    (rw l4 at (number_below (take 4 l) (below_take 256 4 l a)), words_below n (drop 4 l) (below_drop 256 4 l a) (omega arith))

-- bytes are bytes, whatever the number
pub bytes_below : (n x : ℕ) → Below 256 (bytes_of n x)
bytes_below zero x = tt
bytes_below (suc n) x = (omega arith, bytes_below n (x / 256))

pub word_bytes_below : (ws : List ℕ) → Below 256 (word_bytes ws)
word_bytes_below [] = tt
word_bytes_below (w ∷ ws) = below_append 256 (bytes_of 4 w) (word_bytes ws) (bytes_below 4 w) (word_bytes_below ws)

-- words are read from their own bytes
pub words_front : (n : ℕ) (a b : List ℕ) → length a ≡ 4 * n → words_of n (a ++ b) ≡ words_of n a
words_front zero a b h = refl
words_front (suc n) a b h =
    let k : 4 ≤ length a = omega arith in
    let d : length (drop 4 a) ≡ 4 * n = length-drop 4 a ∙ (omega arith) in
    rw (take-append-le 4 a b k, drop-append-le 4 a b k, words_front n (drop 4 a) b d)
