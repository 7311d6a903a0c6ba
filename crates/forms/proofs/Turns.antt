-- What a turn of each loop keeps. Assumes nothing.
use mathlib.Core.Path.{◌≡◌, refl, sym, ap, ◌∙◌, subst}
use mathlib.Core.Bool.{Bool, true, false, false≢true, cond, ◌&&◌}
use mathlib.Core.List.{List, [], ◌∷◌, ◌++◌}
use Prim.Native.Nat.{ℕ, zero, suc, ◌+◌, ◌-◌, ◌*◌, ◌^◌, ◌≤◌, ◌<◌}
use native.Mathlib.Numerals.{add-one}
use native.Mathlib.Nat.{add-zero, zero-add, add_assoc, pow-suc}
use native.Mathlib.Omega.{arith}
use lib.ListN.{length, take, drop, get_or, set, replicate, length-set, length-drop, drop_of_length-le}
use lib.Seq.{drop-cons, drop-drop, take_all}
use lib.Dec.{ltb, eqb}
use borrow.Author.Tests.{ltb-true, ltb-false, lt-ltb, eq-eqb, ne_eqb, eqb-true, eqb-false}
use Rattle.std.specs.Prelude.{Option, Some, None, slice_get}
use Rattle.std.specs.Bool.{then_some}
use Rattle.forms.specs.Numbers.{found_number, read_number, read_positive, read_signed, read_fixed, read_byte, negated, digits_from, starts_with_digits, value_from, value_and_length, nothing, longer, is_digit}
use Rattle.forms.specs.Kinds.{is_slot, in_range}
use Rattle.forms.specs.Forms.{ScannedForm, item_text, read_item, head, tail, left, fill, all_in_range, Match, unmatched, matched, prepend, scan, scanned, into, scanned_as, not_found, taken_by, advance}
use Rattle.forms.specs.Tables.{found_form}
use Rattle.forms.specs.declared.tables.Found.{Found}
use Rattle.forms.specs.Writing.{last_place, Wrote}
use Rattle.forms.specs.declared.numbers.Number.{Number}
use Rattle.forms.proofs.Reading.{number-none, number_small, number_short}
use Rattle.forms.proofs.Marks.{unmarked-range}
use Rattle.forms.proofs.Matching.{item-short, literal-text, unmarked-read}
use Rattle.forms.proofs.Digits.{digit-true}
use Rattle.forms.proofs.Puts.{then, like, nothing_written, next-most}

-- the part from n on
pub rest : {A : Type 0} (s : List A) (n : ℕ) → take (length s - n) (drop n s) ≡ drop n s
rest s n = take_all (length s - n) (drop n s) (rw length-drop (omega arith))

-- what an answer tells of the test that it stands for
pub taken : {A : Type 0} {b : Bool} {x y : A} → Some y ≡ cond b (Some x) None → (b ≡ true) × (y ≡ x)
taken {b = true} e = (refl, cc)
taken {b = false} e = cc

pub left_out : {A : Type 0} {b : Bool} (x : A) → None ≡ cond b (Some x) None → b ≡ false
left_out {b = true} x e = cc
left_out {b = false} x e = refl

pub found-some : {n r : Number} → n ≡ r → 0 < n.length → Some n ≡ found_number r
found-some {n} {r} e some = rw (lt-ltb 0 r.length (rw e at some)) (ap Some e)

pub found-none : {r : Number} → r ≡ nothing → None ≡ found_number r
found-none e = rw e

pub number-found : {n r : Number} → Some n ≡ found_number r → (0 < n.length) × (n ≡ r)
number-found {n} {r} e = let there = taken e in (rw there.1 (ltb-true 0 r.length there.0), there.1)

pub number-missed : (r : Number) → None ≡ found_number r → r.length ≡ 0
number-missed r e = omega (arith, ltb-false 0 r.length (left_out r e))

pub form-some : {f g : Found} → f ≡ g → 0 < f.length → Some f ≡ found_form g
form-some {f} {g} e some = rw (lt-ltb 0 g.length (rw e at some)) (ap Some e)

pub form-found : {f g : Found} → Some f ≡ found_form g → (0 < f.length) × (f ≡ g)
form-found {f} {g} e = let there = taken e in (rw there.1 (ltb-true 0 g.length there.0), there.1)

pub form-missed : (g : Found) → None ≡ found_form g → g.length ≡ 0
form-missed g e = omega (arith, ltb-false 0 g.length (left_out g e))

-- what `is_empty` tells of a length
pub some_left : {b : Bool} {n : ℕ} → b ≡ eqb n 0 → b ≡ false → 0 < n
some_left {n = n} told some = omega (arith, eqb-false n 0 (sym told ∙ some))

pub none_left : {b : Bool} {n : ℕ} → b ≡ eqb n 0 → b ≡ true → n ≤ 0
none_left {n = n} told none = omega (arith, eqb-true n 0 (sym told ∙ none))

-- ---- the digits of a plain number

-- after the first byte, the digits that are left continue the number
pub record Digits (text rest : List ℕ) (value i : ℕ) : Type 0 where
  pub same : read_number text ≡ longer (1 + i) (digits_from (drop i rest) value)

abbrev pub continued : ℕ → ℕ → Option ℕ
continued value byte = cond (ltb value 1000000000 && is_digit byte) (Some (value * 10 + (byte - 48))) None

module _ {text rest : List ℕ} {value i : ℕ} (digits : Digits text rest value i) where
  pub digits-end : length rest ≤ i → {size : ℕ} → size ≡ 1 + i → Some (value_and_length value size) ≡ found_number (read_number text)
  unfolding digits_from
  digits-end h e = rw e (found-some (sym (digits.same ∙ rw (drop_of_length-le rest {i = i} h, add-zero))) (omega arith))

  module _ (h : i < length rest) where
    pub digits-stop : None ≡ continued value (get_or rest i 0) → Some (value_and_length value (1 + i)) ≡ found_number (read_number text)
    unfolding digits_from
    digits-stop none = found-some (sym (digits.same ∙ rw (drop-cons rest i 0 h, left_out _ none, add-zero))) (omega arith)

    pub digits-turn : {more : ℕ} → Some more ≡ continued value (get_or rest i 0) → Digits text rest more (i + 1)
    unfolding digits_from
    digits-turn {more} some =
        let there = taken some in
        record {
          same = digits.same
              ∙ rw (there.1, drop-cons rest i 0 h, there.0, add-one)
              (ap (value_and_length (digits_from (drop (suc i) rest) (value * 10 + (get_or rest i 0 - 48))).value) (omega arith));
        }

pub first-none : (s : List ℕ) → length s ≡ 0 → read_number s ≡ nothing
unfolding read_number
first-none [] h = refl
first-none (c ∷ s) h = absurd (omega arith)

pub first-zero : (s : List ℕ) → 0 < length s → get_or s 0 0 ≡ 48 → read_number s ≡ value_and_length 0 1
unfolding read_number
first-zero [] h e = absurd (omega arith)
first-zero (c ∷ s) h e = rw (eq-eqb c 48 e)

pub first-other : (s : List ℕ) → 0 < length s → (get_or s 0 0 ≡ 48 → ⊥) → is_digit (get_or s 0 0) ≡ false → read_number s ≡ nothing
unfolding read_number
first-other [] h n e = absurd (omega arith)
first-other (c ∷ s) h n e = rw (ne_eqb c 48 n, e)

pub first-digit : (s : List ℕ) → 0 < length s → (get_or s 0 0 ≡ 48 → ⊥) → is_digit (get_or s 0 0) ≡ true
    → read_number s ≡ longer 1 (digits_from (drop 1 s) (get_or s 0 0 - 48))
unfolding read_number
first-digit [] h n e = absurd (omega arith)
first-digit (c ∷ s) h n e = rw (ne_eqb c 48 n, e)

pub zero-found : (s : List ℕ) → 0 < length s → get_or s 0 0 ≡ 48 → Some (value_and_length 0 1) ≡ found_number (read_number s)
zero-found s h e = found-some (sym (first-zero s h e)) (omega arith)

pub digits-none : (s : List ℕ) → 0 < length s → (get_or s 0 0 ≡ 48 → ⊥) → None ≡ continued 0 (get_or s 0 0) → None ≡ found_number (read_number s)
digits-none s h n none = found-none (first-other s h n (left_out _ none))

pub digits-start : (s : List ℕ) → 0 < length s → (get_or s 0 0 ≡ 48 → ⊥) → {value : ℕ} → Some value ≡ continued 0 (get_or s 0 0)
    → Digits s (take (length s - 1) (drop 1 s)) value 0
digits-start s h n {value} some =
    let there = taken some in
    record { same = rw (rest s 1, there.1, zero-add) (first-digit s h n there.0) }

pub tail-length : {A : Type 0} (s : List A) → length (take (length s - 1) (drop 1 s)) ≡ length s - 1
tail-length s = ap length (rest s 1) ∙ length-drop 1 s

-- for the check itself, which then needs no name of a step with the digit in it
pub ruleset zeros = (zero-found)

-- ---- a number other than 0

pub positive-none : (s : List ℕ) → None ≡ found_number (read_number s) → None ≡ found_number (read_positive s)
unfolding read_positive
positive-none s none = go (ltb 0 (read_number s).value)
  where
    go : (b : Bool) → None ≡ found_number (cond b (read_number s) nothing)
    go true = none
    go false = refl

pub positive-some : (s : List ℕ) {n : Number} → Some n ≡ found_number (read_number s) → then_some (ltb 0 n.value) n ≡ found_number (read_positive s)
unfolding read_positive
positive-some s {n} some = let there = number-found some in rw (← there.1) (go (ltb 0 n.value) there.0)
  where
    go : (b : Bool) → 0 < n.length → then_some b n ≡ found_number (cond b n nothing)
    go true long = found-some refl long
    go false long = refl

-- and it is the number itself
pub positive-is : (s : List ℕ) {n : Number} → Some n ≡ found_number (read_positive s) → (n ≡ read_number s) × (0 < n.value)
unfolding read_positive
positive-is s {n} some = let there = number-found some in go (ltb 0 (read_number s).value) refl there.0 there.1
  where
    go : (b : Bool) → ltb 0 (read_number s).value ≡ b → 0 < n.length → n ≡ cond b (read_number s) nothing → (n ≡ read_number s) × (0 < n.value)
    go true positive long e = (e, rw e (ltb-true 0 (read_number s).value positive))
    go false positive long e = absurd (omega (arith, long, ap (λ (r : Number). r.length) e))

pub positive-missed : (s : List ℕ) → None ≡ found_number (read_positive s) → (read_number s).value ≡ 0
unfolding read_positive
positive-missed s none = go (ltb 0 (read_number s).value) refl none
  where
    go : (b : Bool) → ltb 0 (read_number s).value ≡ b → None ≡ found_number (cond b (read_number s) nothing) → (read_number s).value ≡ 0
    go true positive missed = number-none s (number-missed (read_number s) missed)
    go false positive missed = omega (arith, ltb-false 0 (read_number s).value positive)

-- ---- one byte

pub byte-same : (c : ℕ) (s : List ℕ) → slice_get s 0 ≡ Some c → Some (value_and_length 0 1) ≡ found_number (read_byte c s)
unfolding read_byte
byte-same c [] e = cc
byte-same c (d ∷ s) e = let same : d ≡ c = cc in rw (eq-eqb d c same)

pub byte-other : (c : ℕ) (s : List ℕ) → (slice_get s 0 ≡ Some c → ⊥) → None ≡ found_number (read_byte c s)
unfolding read_byte
byte-other c [] n = refl
byte-other c (d ∷ s) n = rw (ne_eqb d c (λ e. n (ap Some e)))

-- one byte, at a place
pub byte_at : (s : List ℕ) (i c : ℕ) → i < length s → cond (eqb (get_or s i 0) c) (value_and_length 0 1) nothing ≡ read_byte c (drop i s)
unfolding read_byte
byte_at s i c h = rw (drop-cons s i 0 h)

pub byte_past : (s : List ℕ) (i c : ℕ) → length s ≤ i → nothing ≡ read_byte c (drop i s)
unfolding read_byte
byte_past s i c h = rw (drop_of_length-le s {i = i} h)

pub ruleset places = (byte_at, byte_past)

-- ---- a number that may have a minus

pub signed-none : (s : List ℕ) → length s ≡ 0 → read_signed s ≡ nothing
unfolding read_signed
signed-none [] h = refl
signed-none (c ∷ s) h = absurd (omega arith)

pub signed-minus : (s : List ℕ) → 0 < length s → get_or s 0 0 ≡ 45 → read_signed s ≡ negated (read_number (drop 1 s))
unfolding read_signed
signed-minus [] h e = absurd (omega arith)
signed-minus (c ∷ s) h e = rw (eq-eqb c 45 e)

-- a number after the minus
pub negated-some : (s : List ℕ) {n : Number} → Some n ≡ found_number (read_positive s)
    → Some (value_and_length (10000000000 + n.value) (1 + n.length)) ≡ found_number (negated (read_number s))
negated-some s {n} some =
    let there = positive-is s some in
    found-some (rw (← there.0, lt-ltb 0 n.value there.1)) (omega arith)

pub negated-none : (s : List ℕ) → None ≡ found_number (read_positive s) → None ≡ found_number (negated (read_number s))
negated-none s none = rw (positive-missed s none)

-- the amount of a number that was read
pub amount-fits : (s : List ℕ) {n : Number} → Some n ≡ found_number (read_positive s) → (n.value < 10000000000) × (n.length ≤ length s)
amount-fits s some = let there = positive-is s some in rw there.0 (number_small s, number_short s)

-- ---- the digits of a number of fixed length

pub record Fixed (n : ℕ) (s : List ℕ) (value i : ℕ) : Type 0 where
  pub few : i ≤ n
  pub small : value < 10 ^ i
  pub digits : starts_with_digits n s ≡ starts_with_digits (n - i) (drop i s)
  pub same : value_from n s 0 ≡ value_from (n - i) (drop i s) value

pub fixed-start : (n : ℕ) (s : List ℕ) → Fixed n s 0 0
fixed-start n s = let z : n - 0 ≡ n = omega arith in record { few = omega arith; small = omega arith; digits = rw z; same = rw z }

-- ten to the power of a count of digits stays small
pub power_small : (i : ℕ) → i ≤ 8 → 10 ^ i ≤ 100000000
power_small zero h = omega arith
power_small (suc zero) h = omega arith
power_small (suc (suc zero)) h = omega arith
power_small (suc (suc (suc zero))) h = omega arith
power_small (suc (suc (suc (suc zero)))) h = omega arith
power_small (suc (suc (suc (suc (suc zero))))) h = omega arith
power_small (suc (suc (suc (suc (suc (suc zero)))))) h = omega arith
power_small (suc (suc (suc (suc (suc (suc (suc zero))))))) h = omega arith
power_small (suc (suc (suc (suc (suc (suc (suc (suc zero)))))))) h = omega arith
power_small (suc (suc (suc (suc (suc (suc (suc (suc (suc i))))))))) h = absurd (omega arith)

module _ {n : ℕ} {s : List ℕ} {value i : ℕ} (v : Fixed n s value i) (short : n ≤ 8) (size : length s ≡ n) (h : i < length s) where
  left_over : n - i ≡ suc (n - (i + 1))
  left_over = omega arith

  room : ltb value 1000000000 ≡ true
  room = lt-ltb value 1000000000 (omega (arith, v.small, power_small i (omega arith)))

  pub fixed-stop : None ≡ continued value (get_or s i 0) → None ≡ found_number (read_fixed n s)
  unfolding read_fixed
  fixed-stop none =
      let other : is_digit (get_or s i 0) ≡ false = rw room at (left_out (value * 10 + (get_or s i 0 - 48)) none) in
      rw (v.digits, left_over, drop-cons s i 0 h) (tested (n - (i + 1)) other)
    where
      tested : (m : ℕ) → is_digit (get_or s i 0) ≡ false
          → None ≡ found_number (cond (starts_with_digits (suc m) (get_or s i 0 ∷ drop (suc i) s)) (value_and_length (value_from n s 0) n) nothing)
      tested m other = unfold starts_with_digits in rw other

  pub fixed-turn : {more : ℕ} → Some more ≡ continued value (get_or s i 0) → Fixed n s more (i + 1)
  fixed-turn {more} some =
      let there = taken some in
      let digit : is_digit (get_or s i 0) ≡ true = rw room at there.0 in
      let d = digit-true (get_or s i 0) digit in
      record {
        few = omega arith;
        small = rw (add-one, pow-suc 10 i, there.1) (omega (arith, v.small));
        digits = v.digits ∙ rw (left_over, drop-cons s i 0 h, add-one) (tested (n - suc i) digit);
        same = v.same ∙ rw (left_over, drop-cons s i 0 h, add-one, there.1) (valued (n - suc i));
      }
    where
      tested : (m : ℕ) → is_digit (get_or s i 0) ≡ true → starts_with_digits (suc m) (get_or s i 0 ∷ drop (suc i) s) ≡ starts_with_digits m (drop (suc i) s)
      tested m digit = unfold starts_with_digits in rw digit

      valued : (m : ℕ) → value_from (suc m) (get_or s i 0 ∷ drop (suc i) s) value ≡ value_from m (drop (suc i) s) (value * 10 + (get_or s i 0 - 48))
      valued m = unfold value_from in refl

pub fixed-end : {n : ℕ} {s : List ℕ} {value i : ℕ} → Fixed n s value i → 0 < n → n ≤ i → Some (value_and_length value n) ≡ found_number (read_fixed n s)
unfolding read_fixed
fixed-end {n} {s} {value} {i} v some h =
    let z : n - i ≡ 0 = omega arith in
    found-some (sym (rw (v.digits, v.same, z) (last (drop i s)))) some
  where
    last : (l : List ℕ) → cond (starts_with_digits 0 l) (value_and_length (value_from 0 l value) n) nothing ≡ value_and_length value n
    last l = unfold starts_with_digits value_from in refl

-- a text that is too short has no such number, and of a longer one only the front counts
digits-short : (n : ℕ) (s : List ℕ) → length s < n → starts_with_digits n s ≡ false
unfolding starts_with_digits
digits-short zero s h = absurd (omega arith)
digits-short (suc n) [] h = refl
digits-short (suc n) (c ∷ s) h = rw (digits-short n s (omega arith)) (go (is_digit c))
  where
    go : (b : Bool) → (b && false) ≡ false
    go true = refl
    go false = refl

digits-front : (n : ℕ) (s : List ℕ) → starts_with_digits n (take n s) ≡ starts_with_digits n s
unfolding starts_with_digits
digits-front zero s = refl
digits-front (suc n) [] = refl
digits-front (suc n) (c ∷ s) = rw (digits-front n s)

value-front : (n : ℕ) (s : List ℕ) (a : ℕ) → value_from n (take n s) a ≡ value_from n s a
unfolding value_from
value-front zero s a = refl
value-front (suc n) [] a = refl
value-front (suc n) (c ∷ s) a = value-front n s (a * 10 + (c - 48))

pub fixed-none : (n : ℕ) (s : List ℕ) → length s < n → None ≡ found_number (read_fixed n s)
unfolding read_fixed
fixed-none n s h = rw (digits-short n s h)

pub fixed-front : (n : ℕ) (s : List ℕ) {front : List ℕ} → front ≡ take (n - 0) (drop 0 s) → read_fixed n front ≡ read_fixed n s
unfolding read_fixed
fixed-front n s e = let all : n - 0 ≡ n = omega arith in rw (e, all, digits-front n s, value-front n s 0)

-- ---- one form against a text

pub record Scan (t s : List ℕ) (a : ScannedForm) (i : ℕ) : Type 0 where
  pub in_form : i ≤ length t
  pub six : length a.values ≡ 6
  pub few : a.count ≤ i
  pub in_text : a.length ≤ length s
  pub good : a.matches ≡ true
  pub same : scanned (scan t s) ≡ into a (scan (drop i t) (drop a.length s))

pub scan-start : (t s : List ℕ) → Scan t s (scanned_as (replicate 6 0) 0 0) 0
unfolding scanned
scan-start t s = record { in_form = omega arith; six = refl; few = omega arith; in_text = omega arith; good = refl; same = refl }

-- one item and what follows it
scan-at : (t s : List ℕ) (i : ℕ) → i < length t
    → scan (drop i t) s
    ≡ cond (ltb 0 (read_item (get_or t i 0) s).length)
    (prepend (is_slot (get_or t i 0)) (read_item (get_or t i 0) s).value (read_item (get_or t i 0) s).length (scan (drop (suc i) t) (drop (read_item (get_or t i 0) s).length s)))
    unmatched
unfolding scan
scan-at t s i h = rw (drop-cons t i 0 h)

taken-into : (a : ScannedForm) (b : Bool) (r : Number) (m : Match) → into (taken_by a b r) m ≡ into a (prepend b r.value r.length m)
taken-into a b r unmatched = refl
taken-into a true r (matched vs m) =
    let k : a.count + 1 + length vs ≡ a.count + suc (length vs) = omega arith in
    rw (k, add-one, add_assoc)
taken-into a false r (matched vs m) = rw add_assoc

module _ (t s : List ℕ) (a : ScannedForm) (i : ℕ) (v : Scan t s a i) (h : i < length t) (r : Number)
    (e : r ≡ read_item (get_or t i 0) (take (length s - a.length) (drop a.length s))) where
  at : r ≡ read_item (get_or t i 0) (drop a.length s)
  at = e ∙ ap (read_item (get_or t i 0)) (rest s a.length)

  pub scan-fits : a.length + r.length ≤ length s
  scan-fits =
      let short : r.length ≤ length s - a.length = rw (at, ← length-drop) (item-short (get_or t i 0) (drop a.length s)) in
      omega (arith, v.in_text)

  pub scan-missed : r.length ≡ 0 → not_found ≡ scanned (scan t s)
  scan-missed z =
      let y : (read_item (get_or t i 0) (drop a.length s)).length ≡ 0 = ap (λ (x : Number). x.length) (sym at) ∙ z in
      sym (v.same ∙ rw (scan-at t (drop a.length s) i h, y))

  pub scan-turn : (b : Bool) (a' : ScannedForm) → (r.length ≡ 0 → ⊥) → b ≡ is_slot (get_or t i 0) → a' ≡ taken_by a b r → Scan t s a' (i + 1)
  scan-turn b a' n p q =
      subst (λ (x : ScannedForm). Scan t s x (i + 1)) (sym q)
      (record {
        in_form = omega arith;
        six = six-of b;
        few = few-of b;
        in_text = scan-fits;
        good = refl;
        same = v.same ∙ ap (into a) here ∙ sym (taken-into a b r (scan (drop (i + 1) t) (drop (a.length + r.length) s)));
      })
    where
      six-of : (x : Bool) → length (cond x (set a.values a.count r.value) a.values) ≡ 6
      six-of true = length-set a.values a.count r.value ∙ v.six
      six-of false = v.six

      few-of : (x : Bool) → advance x a.count ≤ i + 1
      few-of true = omega (arith, v.few)
      few-of false = omega (arith, v.few)

      y : 0 < (read_item (get_or t i 0) (drop a.length s)).length
      y = rw (← at) (positive r.length n)
        where
          positive : (k : ℕ) → (k ≡ 0 → ⊥) → 0 < k
          positive zero g = absurd (g refl)
          positive (suc k) g = omega arith

      here : scan (drop i t) (drop a.length s) ≡ prepend b r.value r.length (scan (drop (i + 1) t) (drop (a.length + r.length) s))
      here = scan-at t (drop a.length s) i h ∙ rw (lt-ltb 0 _ y, ← at, ← p, drop-drop, add-one)

-- the same with a byte that stands for itself, and with a number
module _ (t s values : List ℕ) (count n i : ℕ) (v : Scan t s (scanned_as values count n) i) (h : i < length t) where
  module _ (p : is_slot (get_or t i 0) ≡ false) (b : Bool) (q : cond b (value_and_length 0 1) nothing ≡ read_byte (get_or t i 0) (drop n s)) where
    byte-read : cond b (value_and_length 0 1) nothing ≡ read_item (get_or t i 0) (take (length s - n) (drop n s))
    byte-read = q ∙ sym (unmarked-read (get_or t i 0) (drop n s) p) ∙ ap (read_item (get_or t i 0)) (sym (rest s n))

    pub byte-missed : b ≡ false → not_found ≡ scanned (scan t s)
    byte-missed f = scan-missed t s (scanned_as values count n) i v h (cond b (value_and_length 0 1) nothing) byte-read (rw f)

    pub byte_fits : b ≡ true → n + 1 ≤ length s
    byte_fits e = rw e at (scan-fits t s (scanned_as values count n) i v h (cond b (value_and_length 0 1) nothing) byte-read)

    pub byte-turn : b ≡ true → Scan t s (scanned_as values count (n + 1)) (i + 1)
    byte-turn e =
        scan-turn t s (scanned_as values count n) i v h (cond b (value_and_length 0 1) nothing) byte-read false (scanned_as values count (n + 1)) (rw e (λ z. omega arith)) (sym p) (rw e)

  module _ (slot : is_slot (get_or t i 0) ≡ true) where
    pub number-missing : None ≡ found_number (read_item (get_or t i 0) (take (length s - n) (drop n s))) → not_found ≡ scanned (scan t s)
    number-missing none =
        scan-missed t s (scanned_as values count n) i v h (read_item (get_or t i 0) (take (length s - n) (drop n s))) refl
        (number-missed (read_item (get_or t i 0) (take (length s - n) (drop n s))) none)

    module _ (r : Number) (some : Some r ≡ found_number (read_item (get_or t i 0) (take (length s - n) (drop n s)))) where
      pub number-fits : n + r.length ≤ length s
      number-fits = scan-fits t s (scanned_as values count n) i v h r (number-found some).1

      pub number-turn : Scan t s (scanned_as (set values count r.value) (count + 1) (n + r.length)) (i + 1)
      number-turn =
          let there = number-found some in
          scan-turn t s (scanned_as values count n) i v h r there.1 true (scanned_as (set values count r.value) (count + 1) (n + r.length))
          (λ none. omega (arith, there.0, none)) (sym slot) refl

pub scan-end : (t s : List ℕ) (a : ScannedForm) (i : ℕ) → Scan t s a i → length t ≤ i → a ≡ scanned (scan t s)
unfolding scan
scan-end t s a i v h =
    sym (v.same ∙ rw (drop_of_length-le t {i = i} h, add-zero, add-zero) (λ j. record { matches = (sym v.good) j; values = a.values; count = a.count; length = a.length }))

-- a form that stands at the front has some bytes there
pub scan-some : (t s : List ℕ) → 0 < length t → (scanned (scan t s)).matches ≡ true → 0 < (scanned (scan t s)).length
unfolding scan scanned
scan-some [] s h m = absurd (omega arith)
scan-some (c ∷ t) s h m = go (ltb 0 (read_item c s).length) refl (is_slot c) (scan t (drop (read_item c s).length s)) m
  where
    go : (b : Bool) → ltb 0 (read_item c s).length ≡ b → (slot : Bool) (rest : Match)
        → (into (scanned_as (replicate 6 0) 0 0) (cond b (prepend slot (read_item c s).value (read_item c s).length rest) unmatched)).matches ≡ true
        → 0 < (into (scanned_as (replicate 6 0) 0 0) (cond b (prepend slot (read_item c s).value (read_item c s).length rest) unmatched)).length
    go false e slot rest q = absurd (false≢true q)
    go true e slot unmatched q = absurd (false≢true q)
    go true e true (matched vs n) q = omega (arith, ltb-true 0 (read_item c s).length e)
    go true e false (matched vs n) q = omega (arith, ltb-true 0 (read_item c s).length e)

-- ---- the values of a form, one after the other

pub head-drop : (l : List ℕ) (k : ℕ) → head (drop k l) ≡ get_or l k 0
head-drop [] zero = refl
head-drop [] (suc k) = refl
head-drop (x ∷ l) zero = refl
head-drop (x ∷ l) (suc k) = head-drop l k

tail-drop : (l : List ℕ) (k : ℕ) → tail (drop k l) ≡ drop (suc k) l
tail-drop [] zero = refl
tail-drop [] (suc k) = refl
tail-drop (x ∷ l) zero = refl
tail-drop (x ∷ l) (suc k) = tail-drop l k

left-drop : (l : List ℕ) (k : ℕ) (b : Bool) → left b (drop k l) ≡ drop (advance b k) l
left-drop l k true = rw add-one (tail-drop l k)
left-drop l k false = refl

advance-most : (b : Bool) (k : ℕ) → advance b k ≤ k + 1
advance-most true k = omega arith
advance-most false k = omega arith

-- ---- writing a form

fill-at : (t vs : List ℕ) (i k : ℕ) → i < length t
    → fill (drop i t) (drop k vs) ≡ item_text (get_or t i 0) (get_or vs k 0) ++ fill (drop (i + 1) t) (drop (advance (is_slot (get_or t i 0)) k) vs)
unfolding fill
fill-at t vs i k h = rw (add-one, drop-cons t i 0 h, head-drop, left-drop)

-- to write what is left is to have written it all
pub record Put (l₀ : List ℕ) (at : ℕ) (t vs l : List ℕ) (p k i : ℕ) : Type 0 where
  pub in_form : i ≤ length t
  pub few : k ≤ i
  pub place : p ≤ last_place
  pub same : length l ≡ length l₀
  pub left : (r : ℕ) (l' : List ℕ) → Wrote l p (fill (drop i t) (drop k vs)) r l' → Wrote l₀ at (fill t vs) r l'

pub put-start : (l : List ℕ) (at : ℕ) (t vs : List ℕ) → at ≤ last_place → Put l at t vs l at 0 0
put-start l at t vs h = record { in_form = omega arith; few = omega arith; place = h; same = refl; left = λ r l' w. w }

pub put-turn : {l₀ : List ℕ} {at : ℕ} {t vs l : List ℕ} {p k i : ℕ} → Put l₀ at t vs l p k i → i < length t → length l₀ ≤ last_place
    → {v p' k' : ℕ} {l' : List ℕ} → v ≡ get_or vs k 0 → Wrote l p (item_text (get_or t i 0) v) p' l' → length l' ≡ length l
    → k' ≡ advance (is_slot (get_or t i 0)) k → Put l₀ at t vs l' p' k' (i + 1)
put-turn {l₀} {at} {t} {vs} {l} {p} {k} {i} inv h f {v} {p'} {k'} {l'} e w s a = record {
  in_form = omega arith;
  few = omega (arith, a, advance-most (is_slot (get_or t i 0)) k, inv.few);
  place = next-most w;
  same = s ∙ inv.same;
  left = λ r x z. inv.left r x (like (fill-at t vs i k h ∙ rw (← e, ← a)) (then (omega (arith, inv.same)) w z));
}

-- a byte that stands for itself
pub put-plain : {l₀ : List ℕ} {at : ℕ} {t vs l : List ℕ} {p k i : ℕ} → Put l₀ at t vs l p k i → i < length t → length l₀ ≤ last_place → is_slot (get_or t i 0) ≡ false
    → {p' : ℕ} {l' : List ℕ} → Wrote l p (get_or t i 0 ∷ []) p' l' → length l' ≡ length l → Put l₀ at t vs l' p' k (i + 1)
put-plain {l₀} {at} {t} {vs} {l} {p} {k} {i} inv h f e w s = put-turn inv h f refl (like (literal-text (get_or t i 0) (get_or vs k 0) e) w) s (rw e)

pub put-end : {l₀ : List ℕ} {at : ℕ} {t vs l : List ℕ} {p k i : ℕ} → Put l₀ at t vs l p k i → length t ≤ i → Wrote l₀ at (fill t vs) p l
unfolding fill
put-end {l₀} {at} {t} {vs} {l} {p} {k} {i} inv h =
    inv.left p l (rw (drop_of_length-le t {i = i} h) (nothing_written l p inv.place))

-- ---- the ranges of a form's values

range_at : (t vs : List ℕ) (i k : ℕ) → i < length t
    → all_in_range (drop i t) (drop k vs) ≡ in_range (get_or t i 0) (get_or vs k 0) && all_in_range (drop (i + 1) t) (drop (advance (is_slot (get_or t i 0)) k) vs)
unfolding all_in_range
range_at t vs i k h = rw (add-one, drop-cons t i 0 h, head-drop, left-drop)

pub record Ranged (t vs : List ℕ) (k i : ℕ) : Type 0 where
  pub in_form : i ≤ length t
  pub few : k ≤ i
  pub same : all_in_range t vs ≡ all_in_range (drop i t) (drop k vs)

pub range-start : (t vs : List ℕ) → Ranged t vs 0 0
range-start t vs = record { in_form = omega arith; few = omega arith; same = refl }

pub range-turn : {t vs : List ℕ} {k i : ℕ} → Ranged t vs k i → i < length t → {v k' : ℕ} {b : Bool} → v ≡ get_or vs k 0
    → b ≡ in_range (get_or t i 0) v → b ≡ true → k' ≡ advance (is_slot (get_or t i 0)) k → Ranged t vs k' (i + 1)
range-turn {t} {vs} {k} {i} inv h {v} {k'} {b} e r y a = record {
  in_form = omega arith;
  few = omega (arith, a, advance-most (is_slot (get_or t i 0)) k, inv.few);
  same = inv.same ∙ range_at t vs i k h ∙ rw (← e, ← r, y, ← a);
}

-- a byte that stands for itself has no range
pub range-plain : {t vs : List ℕ} {k i : ℕ} → Ranged t vs k i → i < length t → is_slot (get_or t i 0) ≡ false → Ranged t vs k (i + 1)
range-plain {t} {vs} {k} {i} inv h p = range-turn inv h refl refl (unmarked-range (get_or t i 0) (get_or vs k 0) p) (rw p)

pub range-stop : {t vs : List ℕ} {k i : ℕ} → Ranged t vs k i → i < length t → {v : ℕ} {b : Bool} → v ≡ get_or vs k 0
    → b ≡ in_range (get_or t i 0) v → b ≡ false → all_in_range t vs ≡ false
range-stop {t} {vs} {k} {i} inv h {v} {b} e r y = inv.same ∙ range_at t vs i k h ∙ rw (← e, ← r, y)

pub range-end : {t vs : List ℕ} {k i : ℕ} → Ranged t vs k i → length t ≤ i → all_in_range t vs ≡ true
unfolding all_in_range
range-end {t} {vs} {k} {i} inv h = inv.same ∙ rw (drop_of_length-le t {i = i} h)
