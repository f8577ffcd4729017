-- Values, their total order, and finite sets of them as ascending lists.
use Rattle.std.specs.Prelude.{◌≡◌, ◌⊎◌, ℕ, Bool, true, false, not, ◌&&◌, ◌||◌, nat_eq, nat_lt, if◌then◌else◌, List, [], ◌∷◌, ◌++◌, map}

-- A truth value, an atom, a pair, or a table. A table is the graph of a function on a finite set: no row, or a row
-- with its argument and its result and then the rows of greater arguments.
pub data Value : Type 0 where
  Truth : Bool → Value
  Atom : ℕ → Value
  Pair : Value → Value → Value
  EmptyTable : Value
  Row : Value → Value → Value → Value

abbrev pub bool_eq : Bool → Bool → Bool
bool_eq true b = b
bool_eq false b = not b

-- the test for equal values
abbrev pub value_eq : Value → Value → Bool
value_eq (Truth a) (Truth b) = bool_eq a b
value_eq (Atom m) (Atom n) = nat_eq m n
value_eq (Pair a b) (Pair c d) = value_eq a c && value_eq b d
value_eq EmptyTable EmptyTable = true
value_eq (Row a b c) (Row x y z) = value_eq a x && (value_eq b y && value_eq c z)
value_eq _ _ = false

-- The order on values: kinds in this order, and values of one kind by their parts from left to right.
abbrev pub kind : Value → ℕ
kind (Truth b) = 0
kind (Atom n) = 1
kind (Pair a b) = 2
kind EmptyTable = 3
kind (Row a b c) = 4

-- a lexicographic step: whether the first parts are less, whether they are equal, whether the others are less
abbrev pub lexicographic : Bool → Bool → Bool → Bool
lexicographic less same others = less || (same && others)

-- a lower kind, or less within one kind
abbrev pub less_by : ℕ → ℕ → Bool → Bool
less_by m n within = nat_lt m n || within

-- the order within one kind
abbrev pub kind_less : Value → Value → Bool
kind_less (Truth a) (Truth b) = not a && b
kind_less (Atom m) (Atom n) = nat_lt m n
kind_less (Pair a b) (Pair c d) = lexicographic (less_by (kind a) (kind c) (kind_less a c)) (value_eq a c)
    (less_by (kind b) (kind d) (kind_less b d))
kind_less (Row a b c) (Row x y z) =
    lexicographic (less_by (kind a) (kind x) (kind_less a x)) (value_eq a x)
    (lexicographic (less_by (kind b) (kind y) (kind_less b y)) (value_eq b y) (less_by (kind c) (kind z) (kind_less c z)))
kind_less _ _ = false

abbrev pub value_less : Value → Value → Bool
value_less v w = less_by (kind v) (kind w) (kind_less v w)

-- what is read of a value; FALSE where it has no such part
abbrev pub is_true : Value → Bool
is_true (Truth b) = b
is_true _ = false

abbrev pub is_truth : Value → Bool
is_truth (Truth b) = true
is_truth _ = false

abbrev pub is_pair : Value → Bool
is_pair (Pair a b) = true
is_pair _ = false

abbrev pub first_of_pair : Value → Value
first_of_pair (Pair a b) = a
first_of_pair _ = Truth false

abbrev pub second_of_pair : Value → Value
second_of_pair (Pair a b) = b
second_of_pair _ = Truth false

-- the result of a table at an argument
abbrev pub result_at : Value → Value → Value
result_at (Row x y others) v = if value_eq x v then y else result_at others v
result_at _ v = Truth false

abbrev pub has_argument : Value → Value → Bool
has_argument (Row x y others) v = value_eq x v || has_argument others v
has_argument _ v = false

-- the members of a set that pass a test
abbrev pub subset : (Value → Bool) → List Value → List Value
subset p [] = []
subset p (v ∷ vs) = if p v then v ∷ subset p vs else subset p vs

-- the table of a function on a set
abbrev pub table : List Value → (Value → Value) → Value
table [] f = EmptyTable
table (v ∷ vs) f = Row v (f v) (table vs f)

-- each table that has one of these results at an argument, and then one of these tables
abbrev pub rows : Value → List Value → List Value → List Value
rows v [] others = []
rows v (w ∷ ws) others = map (λ x. Row v w x) others ++ rows v ws others

-- all tables on a set whose result at each member v is in the set given for v
abbrev pub tables : List Value → (Value → List Value) → List Value
tables [] f = EmptyTable ∷ []
tables (v ∷ vs) f = rows v (f v) (tables vs f)

-- all pairs of a member v of a set and a member of the set given for v
abbrev pub pairs : List Value → (Value → List Value) → List Value
pairs [] f = []
pairs (v ∷ vs) f = map (λ w. Pair v w) (f v) ++ pairs vs f

-- a member of a set
abbrev pub IsMember : Value → List Value → Type 0
IsMember v [] = ⊥
IsMember v (x ∷ xs) = (v ≡ x) ⊎ IsMember v xs

-- the members in strictly ascending order, so that equal sets are equal lists
abbrev pub IsAscending : List Value → Type 0
IsAscending [] = Unit {0}
IsAscending (x ∷ xs) = ((v : Value) → IsMember v xs → value_less x v ≡ true) × IsAscending xs
