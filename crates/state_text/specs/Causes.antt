-- What each refusal of a saved text says, in plain quantifiers over the text's lines. Assumes nothing.
use Rattle.std.specs.Prelude.{ℕ, suc, ◌+◌, ◌≤◌, ◌<◌, ◌≡◌, true, cond, ◌⊎◌, length}
use mathlib.Core.List.{List, [], ◌∷◌, ◌++◌, Memᴰ}
use Rattle.forms.specs.Forms.{fill, values_fit}
use Rattle.forms.specs.Tables.{form_at}
use Rattle.places.specs.Places.{on_grid}
use Rattle.rules.specs.declared.lists.RuleList.{RuleList}
use Rattle.enforcement.specs.States.{fresh}
use Rattle.enforcement.specs.declared.states.State.{State}
use Rattle.state_text.specs.Entries.{saved_forms, line_text, rank, with_line, is_loan}
use Rattle.state_text.specs.Saving.{lines_text}
use Rattle.state_text.specs.Reading.{loaded, read_state}
use Rattle.state_text.specs.declared.entries.Entry.{Entry}
use Rattle.state_text.specs.declared.entries.Entry.TheVariants.{Now, Assigned, Granted, Loan, Open, Place, Active, Did, PlaceWithError}

-- ---- good lines

-- "Users u 0 to 63, roles r 0 to 31, permissions p 0 to 31, sessions s 0 to 31, objects o 0 to 31. .. Time t: .. 0 to 3,155,759,999. x, y:
-- whole metres on the farm grid"; 2026-04: "a fourth number e, 1 to 1000"
abbrev pub Ranged : Entry → Type 0
Ranged (Now t) = t ≤ 3155759999
Ranged (Assigned u r) = (u < 64) × (r < 32)
Ranged (Granted r p) = (r < 32) × (p < 32)
Ranged (Loan u v r t) = (u < 64) × (v < 64) × (r < 32) × (t ≤ 3155759999)
Ranged (Open i u) = (i < 32) × (u < 64)
Ranged (Place i x y) = (i < 32) × (on_grid x ≡ true) × (on_grid y ≡ true)
Ranged (Active i r) = (i < 32) × (r < 32)
Ranged (Did o p u) = (o < 32) × (p < 32) × (u < 64)
Ranged (PlaceWithError i x y e) = (i < 32) × (on_grid x ≡ true) × (on_grid y ≡ true) × (1 ≤ e) × (e ≤ 1000)

-- "ascending", "twice", "another form in the first line": a first line other than `now`, or an earlier line that stands at its place or
-- later
abbrev pub Disordered : List Entry → Entry → Type 0
Disordered [] e = (t : ℕ) → e ≡ Now t → ⊥
Disordered (x ∷ xs) e = (y : Entry) × Memᴰ y (x ∷ xs) × (rank e ≤ rank y)

-- "A role is held when assigned or on loan": an earlier line says so
abbrev pub RoleHeld : List Entry → ℕ → ℕ → Type 0
RoleHeld es u r = Memᴰ (Assigned u r) es ⊎ ((w t : ℕ) × Memᴰ (Loan w u r t) es)

-- "place or active without its open, or role not assigned": no earlier line opens the session, or opens it for a user who holds the role;
-- 2026-01: "A saved loan is 16 where u isn't assigned r, v already holds r or t is not later than now"
abbrev pub Lacks : List Entry → Entry → Type 0
Lacks es (Now t) = ⊥
Lacks es (Assigned u r) = ⊥
Lacks es (Granted r p) = ⊥
Lacks es (Loan u v r t) = (Memᴰ (Assigned u r) es → ⊥) ⊎ (RoleHeld es v r ⊎ ((n : ℕ) × Memᴰ (Now n) es × (t ≤ n)))
Lacks es (Open i u) = ⊥
Lacks es (Place i x y) = (u : ℕ) → Memᴰ (Open i u) es → ⊥
Lacks es (Active i r) = (u : ℕ) → Memᴰ (Open i u) es → RoleHeld es u r → ⊥
Lacks es (Did o p u) = ⊥
Lacks es (PlaceWithError i x y e) = (u : ℕ) → Memᴰ (Open i u) es → ⊥

-- how many lines are loans
unfoldable pub loan_lines : List Entry → ℕ
loan_lines [] = 0
loan_lines (e ∷ es) = cond (is_loan e) (suc (loan_lines es)) (loan_lines es)

-- "a thirty-third": a loan after 32 others
abbrev pub NoRoom : List Entry → Entry → Type 0
NoRoom es e = (is_loan e ≡ true) × (32 ≤ loan_lines es)

-- a line after earlier ones is good
pub record GoodAfter (earlier : List Entry) (entry : Entry) : Type 0 where
  pub ranged : Ranged entry
  pub ordered : Disordered earlier entry → ⊥
  pub rested : Lacks earlier entry → ⊥
  pub room : NoRoom earlier entry → ⊥

-- and each line is, after those before it
abbrev pub EachGood : List Entry → Type 0
EachGood lines = (earlier : List Entry) (entry : Entry) (later : List Entry) → lines ≡ earlier ++ (entry ∷ later) → GoodAfter earlier entry

-- the state after lines
abbrev pub state_after : State → List Entry → State
state_after s [] = s
state_after s (e ∷ es) = state_after (with_line s e) es

-- ---- what is wrong with the line at the front of a text, after earlier lines

-- 10: no form with any numbers is that line; a first line there must be, a later one is there where the text goes on
pub record NoForm (earlier : List Entry) (text : List ℕ) : Type 0 where
  pub is_there : (earlier ≡ []) ⊎ (0 < length text)
  pub none : (form : ℕ) (values more : List ℕ) → form < 9 → values_fit (form_at saved_forms form) values ≡ true → text ≡ fill (form_at saved_forms form) values ++ more → ⊥

-- 11: a form with some numbers is, and a number is outside its range: no line in range is that line
pub record OutOfRange (text : List ℕ) : Type 0 where
  pub form : ℕ
  pub values : List ℕ
  pub more : List ℕ
  pub is_form : form < 9
  pub can_stand : values_fit (form_at saved_forms form) values ≡ true
  pub is_line : text ≡ fill (form_at saved_forms form) values ++ more
  pub outside : (entry : Entry) (later : List ℕ) → Ranged entry → text ≡ line_text entry ++ later → ⊥

-- 15: a line in range that is out of order
pub record OutOfOrder (earlier : List Entry) (text : List ℕ) : Type 0 where
  pub entry : Entry
  pub more : List ℕ
  pub is_line : text ≡ line_text entry ++ more
  pub ranged : Ranged entry
  pub disordered : Disordered earlier entry

-- 16: a line in range and in order that lacks what it rests on
pub record Unrested (earlier : List Entry) (text : List ℕ) : Type 0 where
  pub entry : Entry
  pub more : List ℕ
  pub is_line : text ≡ line_text entry ++ more
  pub ranged : Ranged entry
  pub ordered : Disordered earlier entry → ⊥
  pub lacking : Lacks earlier entry

-- 51: a line in range and in order that lacks nothing, and is a thirty-third loan
pub record ThirtyThird (earlier : List Entry) (text : List ℕ) : Type 0 where
  pub entry : Entry
  pub more : List ℕ
  pub is_line : text ≡ line_text entry ++ more
  pub ranged : Ranged entry
  pub ordered : Disordered earlier entry → ⊥
  pub rested : Lacks earlier entry → ⊥
  pub no_room : NoRoom earlier entry

-- good lines come first, and at line n there is a text of which the statement holds
pub record BadLine (Says : List Entry → List ℕ → Type 0) (text : List ℕ) (n : ℕ) : Type 0 where
  pub earlier : List Entry
  pub rest : List ℕ
  pub whole : text ≡ lines_text earlier ++ rest
  pub good : EachGood earlier
  pub place : n ≡ 1 + length earlier
  pub bad : Says earlier rest

-- every line is good, and they leave the state s
pub record GoodText (text : List ℕ) (s : State) : Type 0 where
  pub lines : List Entry
  pub some : 0 < length lines
  pub whole : text ≡ lines_text lines
  pub good : EachGood lines
  pub same : state_after fresh lines ≡ s

-- ---- "one read from a saved text under the rules in force"

abbrev pub ReadUnder : RuleList → State → Type 0
ReadUnder list s = (text : List ℕ) × (read_state list text ≡ loaded s)
