-- Document 01, 'Texts', the saved state: its forms, what each line says, where it stands, and what it rests on. With the loans of request
-- 2026-01 and the errors of 2026-04. Assumes nothing.
use Rattle.std.specs.Prelude.{ℕ, zero, suc, ◌+◌, ◌*◌, Bool, true, not, cond, ◌&&◌, List, [], ◌∷◌, ◌++◌, get_or, set, leb, ltb, eqb}
use Rattle.forms.specs.Numbers.{signed_code, coordinate_of}
use Rattle.forms.specs.Forms.{fill}
use Rattle.forms.specs.Tables.{bytes, form_at}
use Rattle.places.specs.declared.Position.TheVariants.{Known}
use Rattle.loans.specs.Loans.{loan_of, stored}
use Rattle.loans.specs.declared.Loans.{Loans}
use Rattle.enforcement.specs.States.{assigned_role, loans_of, holds_role, is_open, user_of, position_of}
use Rattle.enforcement.specs.Steps.{with_time, with_assigned, with_granted, with_loans, with_sessions, with_active, with_history, put, session}
use Rattle.enforcement.specs.declared.states.State.{State}
use Rattle.state_text.specs.declared.entries.Entry.{Entry}
use Rattle.state_text.specs.declared.entries.Entry.TheVariants.{Now, Assigned, Granted, Loan, Open, Place, Active, Did, PlaceWithError}

-- ---- the forms, each number by the mark of its kind; 2026-04: "`move` and `place` take a fourth number e, 1 to 1000; left out means 0"

unfoldable pub saved_forms : List ℕ
saved_forms = bytes "(now ~)\n(assigned @ $)\n(granted $ %)\n(loan @ @ $ ~)\n(open & @)\n(place & + +)\n(active & $)\n(did * % @)\n(place & + + `)\n"

-- the line that a form says with its values
unfoldable pub entry_of : ℕ → List ℕ → Entry
entry_of zero v = Now (get_or v 0 0)
entry_of (suc zero) v = Assigned (get_or v 0 0) (get_or v 1 0)
entry_of (suc (suc zero)) v = Granted (get_or v 0 0) (get_or v 1 0)
entry_of (suc (suc (suc zero))) v = Loan (get_or v 0 0) (get_or v 1 0) (get_or v 2 0) (get_or v 3 0)
entry_of (suc (suc (suc (suc zero)))) v = Open (get_or v 0 0) (get_or v 1 0)
entry_of (suc (suc (suc (suc (suc zero))))) v = Place (get_or v 0 0) (coordinate_of (get_or v 1 0)) (coordinate_of (get_or v 2 0))
entry_of (suc (suc (suc (suc (suc (suc zero)))))) v = Active (get_or v 0 0) (get_or v 1 0)
entry_of (suc (suc (suc (suc (suc (suc (suc zero))))))) v = Did (get_or v 0 0) (get_or v 1 0) (get_or v 2 0)
entry_of (suc (suc (suc (suc (suc (suc (suc (suc form)))))))) v = PlaceWithError (get_or v 0 0) (coordinate_of (get_or v 1 0)) (coordinate_of (get_or v 2 0)) (get_or v 3 0)

-- a line's form, and its values
unfoldable pub form_of : Entry → ℕ
form_of (Now t) = 0
form_of (Assigned u r) = 1
form_of (Granted r p) = 2
form_of (Loan u v r t) = 3
form_of (Open i u) = 4
form_of (Place i x y) = 5
form_of (Active i r) = 6
form_of (Did o p u) = 7
form_of (PlaceWithError i x y e) = 8

unfoldable pub values_of : Entry → List ℕ
values_of (Now t) = t ∷ 0 ∷ 0 ∷ 0 ∷ 0 ∷ 0 ∷ []
values_of (Assigned u r) = u ∷ r ∷ 0 ∷ 0 ∷ 0 ∷ 0 ∷ []
values_of (Granted r p) = r ∷ p ∷ 0 ∷ 0 ∷ 0 ∷ 0 ∷ []
values_of (Loan u v r t) = u ∷ v ∷ r ∷ t ∷ 0 ∷ 0 ∷ []
values_of (Open i u) = i ∷ u ∷ 0 ∷ 0 ∷ 0 ∷ 0 ∷ []
values_of (Place i x y) = i ∷ signed_code x ∷ signed_code y ∷ 0 ∷ 0 ∷ 0 ∷ []
values_of (Active i r) = i ∷ r ∷ 0 ∷ 0 ∷ 0 ∷ 0 ∷ []
values_of (Did o p u) = o ∷ p ∷ u ∷ 0 ∷ 0 ∷ 0 ∷ []
values_of (PlaceWithError i x y e) = i ∷ signed_code x ∷ signed_code y ∷ e ∷ 0 ∷ 0 ∷ []

unfoldable pub line_text : Entry → List ℕ
line_text e = fill (form_at saved_forms (form_of e)) (values_of e)

-- ---- "ascending: (now t), (assigned u r), (granted r p), then per session (open s u), (place s x y) if known, (active s r); then
-- (did o p u)"; 2026-01: "saved as `(loan u v r t)` after `granted`, ascending": where a line stands among all lines that can be

unfoldable pub rank : Entry → ℕ
rank (Now t) = 0
rank (Assigned u r) = 1 + (u * 32 + r)
rank (Granted r p) = 1 + (2048 + (r * 32 + p))
rank (Loan u v r t) = 1 + (2048 + (1024 + ((u * 64 + v) * 32 + r)))
rank (Open i u) = 1 + (2048 + (1024 + (131072 + (i * 34 + 0))))
rank (Place i x y) = 1 + (2048 + (1024 + (131072 + (i * 34 + 1))))
rank (Active i r) = 1 + (2048 + (1024 + (131072 + (i * 34 + (2 + r)))))
rank (Did o p u) = 1 + (2048 + (1024 + (131072 + (1088 + ((o * 32 + p) * 64 + u)))))
rank (PlaceWithError i x y e) = 1 + (2048 + (1024 + (131072 + (i * 34 + 1))))

-- "saved line out of order or twice" is 15, and so is "another form in the first line": next is 0 at the first line, and then 1 more
-- than the last line's rank
abbrev pub follows : ℕ → ℕ → Bool
follows next rank = cond (eqb next 0) (eqb rank 0) (leb next rank)

abbrev pub in_order : ℕ → Entry → Bool
in_order next e = follows next (rank e)

-- ---- what a line puts into a state

unfoldable pub with_line : State → Entry → State
with_line s (Now t) = with_time s t
with_line s (Assigned u r) = with_assigned s (put 32 s.assigned u r)
with_line s (Granted r p) = with_granted s (put 32 s.granted r p)
with_line s (Loan u v r t) = with_loans s (stored (loans_of s ++ (loan_of u v r t ∷ [])))
with_line s (Open i u) = with_sessions s (set s.sessions i (session true u (position_of s i)))
with_line s (Place i x y) = with_sessions s (set s.sessions i (session (is_open s i) (user_of s i) (Known (record { x = x; y = y; error = 0 }))))
with_line s (Active i r) = with_active s (put 32 s.active i r)
with_line s (Did o p u) = with_history s (put 64 s.history (o * 32 + p) u)
with_line s (PlaceWithError i x y e) = with_sessions s (set s.sessions i (session (is_open s i) (user_of s i) (Known (record { x = x; y = y; error = e }))))

-- "place or active without its open, or role not assigned" is 16; 2026-01: "A saved loan is 16 where u isn't assigned r, v already holds r or t
-- is not later than now"; "16 .. read held"
unfoldable pub rests : State → Entry → Bool
rests s (Now t) = true
rests s (Assigned u r) = true
rests s (Granted r p) = true
rests s (Loan u v r t) = assigned_role s u r && (not (holds_role s v r) && ltb s.time t)
rests s (Open i u) = true
rests s (Place i x y) = is_open s i
rests s (Active i r) = is_open s i && holds_role s (user_of s i) r
rests s (Did o p u) = true
rests s (PlaceWithError i x y e) = is_open s i

-- 2026-01: "a thirty-third is 51 with its line"
abbrev pub is_loan : Entry → Bool
is_loan e = eqb (form_of e) 3

abbrev pub has_room_in : Loans → Entry → Bool
has_room_in loans e = not (is_loan e && leb 32 loans.count)

abbrev pub has_room : State → Entry → Bool
has_room s e = has_room_in s.loans e
