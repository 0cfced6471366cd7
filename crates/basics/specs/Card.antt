-- The service card: its numbers from 1 to 16, 0 for done, and what an answer is on the card.
use Rattle.std.specs.Prelude.{cond, ℕ, eqb, Result, Ok, Err}
use Rattle.basics.specs.declared.card.Refusal.{Refusal}
use Rattle.basics.specs.declared.card.Refusal.TheVariants.{Memory, Foreign, Table, Clock, File, Locked, Group, Long, Trigger, Running, Room, Alarm, Reply, Garbled, Empty, Beyond}

-- none applies: the call does its work
abbrev pub done_no : ℕ
done_no = 0

-- archive length not the state's; fresh: under 11,000 (firmware 73: 3,300) or over 1,048,576
abbrev pub memory_no : ℕ
memory_no = 1

-- a state, a unit or a firmware against its rule
abbrev pub foreign_no : ℕ
foreign_no = 2

-- live table not 1,424 bytes
abbrev pub table_no : ℕ
table_no = 3

-- stamp out of range
abbrev pub clock_no : ℕ
clock_no = 4

-- file not 1-10
abbrev pub file_no : ℕ
file_no = 5

-- define while not unlocked
abbrev pub locked_no : ℕ
locked_no = 6

-- a bad group; carries the first one's number, or 0 for a list that is not of 32 numbers
abbrev pub group_no : ℕ
group_no = 7

-- record over 250
abbrev pub long_no : ℕ
long_no = 8

-- neither 0 nor a Boolean
abbrev pub trigger_no : ℕ
trigger_no = 9

-- unlock while running
abbrev pub running_no : ℕ
running_no = 10

-- pending start whose layout exceeds memory
abbrev pub room_no : ℕ
room_no = 11

-- slot not 1-32, or a bad entry
abbrev pub alarm_no : ℕ
alarm_no = 12

-- reply buffer under 256
abbrev pub reply_no : ℕ
reply_no = 13

-- not the reply that was asked for, or a stamp out of range in a record that is not all zeros
abbrev pub garbled_no : ℕ
garbled_no = 14

-- record all zeros
abbrev pub empty_no : ℕ
empty_no = 15

-- g or e names nothing
abbrev pub beyond_no : ℕ
beyond_no = 16

-- an answer: its number, and the number that it carries, which only Group has
pub record Card : Type 0 where
  pub number : ℕ
  pub carried : ℕ

abbrev pub card : ℕ → ℕ → Card
card n v = record { number = n; carried = v }

abbrev pub done_card : Card
done_card = card done_no 0

-- ---- the refusals of the code by their numbers
abbrev pub card_of : Refusal → Card
card_of Memory = card memory_no 0
card_of Foreign = card foreign_no 0
card_of Table = card table_no 0
card_of Clock = card clock_no 0
card_of File = card file_no 0
card_of Locked = card locked_no 0
card_of (Group place) = card group_no place
card_of Long = card long_no 0
card_of Trigger = card trigger_no 0
card_of Running = card running_no 0
card_of Room = card room_no 0
card_of Alarm = card alarm_no 0
card_of Reply = card reply_no 0
card_of Garbled = card garbled_no 0
card_of Empty = card empty_no 0
card_of Beyond = card beyond_no 0

-- what is told of an answer: its value is not on the card
abbrev pub card_told : {A : Type 0} → Result A Refusal → Card
card_told (Ok value) = done_card
card_told (Err refusal) = card_of refusal

-- ---- of several
-- the first of two numbers that is not 0: where both could be answered, the one that is looked at first
abbrev pub first_of : ℕ → ℕ → ℕ
first_of a b = cond (eqb a 0) b a
