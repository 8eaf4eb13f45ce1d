-- What it costs to take in a packet, in cycles, by its length.
use Rattle.std.specs.Prelude.{ℕ, ◌-◌, ◌/◌, List, [], ◌∷◌, slice_index_or}

-- what no class costs more than
abbrev pub highest_class_cost : ℕ
highest_class_cost = 1360

-- the costs of the length classes, from class 0 on
abbrev pub class_costs : List ℕ
class_costs = 420 ∷ 510 ∷ 590 ∷ 680 ∷ 760 ∷ 850 ∷ 930 ∷ 1020 ∷ 1100 ∷ 1190 ∷ 1270 ∷ highest_class_cost ∷ []

-- the class of a length of 1 to 384 octets, 0 to 11
abbrev pub length_class : ℕ → ℕ
length_class n = (n - 1) / 32

-- past the table, where no length of a packet leads, the last cost stands
abbrev pub cost_of_length : ℕ → ℕ
cost_of_length n = slice_index_or class_costs (length_class n) highest_class_cost
