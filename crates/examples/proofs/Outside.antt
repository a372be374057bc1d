-- What is left when failed attempts are struck out, beside what an outside program's book keeps: some of its traces, each event
-- as the verdict that the program's own answer shows. Computed, as one table. tests/choose-strikes.sh writes this file.
-- Assumes nothing.
use Prim.Native.Nat.{ℕ, suc}
use mathlib.Core.Path.{◌≡◌, refl}
use mathlib.Core.List.{List, [], ◌∷◌, map}
use Rattle.octets.specs.declared.Refusal.TheVariants.{WrongState}
use Rattle.book.specs.Book.{Verdict, refused, discarded, opened, agreed, failed, released, request_confused, request_right, request_wrong}
use Rattle.book.specs.Strike.{kept_of, sheet_of}

-- the verdicts; what stands in refusals, bearers, Requests and octets does not matter here
refusal : Verdict ℕ ℕ
refusal = refused WrongState

discard : Verdict ℕ ℕ
discard = discarded

command : Verdict ℕ ℕ
command = opened 0 []

agree : Verdict ℕ ℕ
agree = agreed 0

fail : Verdict ℕ ℕ
fail = failed

free : Verdict ℕ ℕ
free = released

confuse : Verdict ℕ ℕ
confuse = request_confused []

accept : Verdict ℕ ℕ
accept = request_right 0 []

reject : Verdict ℕ ℕ
reject = request_wrong []

-- an event: its number, and its verdict
record Numbered : Type 0 where
  pub number : ℕ
  pub verdict : Verdict ℕ ℕ

-- the events of verdicts, the first with number n
numbered : ℕ → List (Verdict ℕ ℕ) → List Numbered
numbered n [] = []
numbered n (v ∷ vs) = record { number = n; verdict = v } ∷ numbered (suc n) vs

-- the numbers of the events that are left
left : List (Verdict ℕ ℕ) → List ℕ
left vs = map (λ l. l.event.number) (kept_of (λ k e. e.verdict) (numbered 1 vs))

record Case : Type 0 where
  pub verdicts : List (Verdict ℕ ℕ)
  pub kept : List ℕ

cases : List Case
cases =
    record { verdicts = discard ∷ refusal ∷ discard ∷ discard ∷ reject ∷ discard ∷ discard ∷ accept ∷ discard ∷ command ∷ discard ∷ refusal ∷ fail ∷ discard ∷ accept ∷ command ∷ accept ∷ discard ∷ discard ∷ discard ∷ accept ∷ discard ∷ reject ∷ discard ∷ refusal ∷ discard ∷ discard ∷ discard ∷ refusal ∷ refusal ∷ command ∷ fail ∷ command ∷ free ∷ accept ∷ refusal ∷ discard ∷ discard ∷ discard ∷ discard ∷ accept ∷ discard ∷ reject ∷ accept ∷ discard ∷ discard ∷ discard ∷ accept ∷ discard ∷ reject ∷ discard ∷ discard ∷ discard ∷ discard ∷ refusal ∷ command ∷ agree ∷ discard ∷ reject ∷ discard ∷ discard ∷ discard ∷ command ∷ refusal ∷ refusal ∷ refusal ∷ refusal ∷ refusal ∷ fail ∷ discard ∷ accept ∷ discard ∷ discard ∷ discard ∷ refusal ∷ discard ∷ confuse ∷ discard ∷ discard ∷ refusal ∷ discard ∷ refusal ∷ refusal ∷ refusal ∷ discard ∷ refusal ∷ command ∷ refusal ∷ refusal ∷ agree ∷ discard ∷ discard ∷ discard ∷ refusal ∷ accept ∷ discard ∷ discard ∷ reject ∷ discard ∷ discard ∷ discard ∷ accept ∷ reject ∷ discard ∷ discard ∷ discard ∷ refusal ∷ discard ∷ refusal ∷ refusal ∷ refusal ∷ discard ∷ free ∷ discard ∷ discard ∷ discard ∷ discard ∷ discard ∷ discard ∷ discard ∷ refusal ∷ discard ∷ discard ∷ discard ∷ accept ∷ command ∷ agree ∷ reject ∷ discard ∷ discard ∷ command ∷ fail ∷ command ∷ refusal ∷ refusal ∷ reject ∷ command ∷ reject ∷ discard ∷ reject ∷ command ∷ refusal ∷ agree ∷ accept ∷ refusal ∷ accept ∷ command ∷ discard ∷ fail ∷ discard ∷ discard ∷ refusal ∷ command ∷ discard ∷ fail ∷ discard ∷ command ∷ refusal ∷ fail ∷ accept ∷ discard ∷ free ∷ discard ∷ accept ∷ discard ∷ discard ∷ refusal ∷ refusal ∷ discard ∷ accept ∷ discard ∷ discard ∷ discard ∷ discard ∷ discard ∷ discard ∷ discard ∷ []; kept = 1 ∷ 2 ∷ 3 ∷ 4 ∷ 6 ∷ 7 ∷ 8 ∷ 9 ∷ 14 ∷ 15 ∷ 17 ∷ 18 ∷ 19 ∷ 20 ∷ 21 ∷ 22 ∷ 24 ∷ 25 ∷ 26 ∷ 27 ∷ 28 ∷ 29 ∷ 30 ∷ 34 ∷ 35 ∷ 36 ∷ 37 ∷ 38 ∷ 39 ∷ 40 ∷ 41 ∷ 42 ∷ 44 ∷ 45 ∷ 46 ∷ 47 ∷ 48 ∷ 49 ∷ 51 ∷ 52 ∷ 53 ∷ 54 ∷ 55 ∷ 56 ∷ 57 ∷ 58 ∷ 60 ∷ 61 ∷ 62 ∷ 70 ∷ 71 ∷ 72 ∷ 73 ∷ 74 ∷ 75 ∷ 76 ∷ 78 ∷ 79 ∷ 80 ∷ 81 ∷ 82 ∷ 83 ∷ 84 ∷ 85 ∷ 86 ∷ 87 ∷ 88 ∷ 89 ∷ 90 ∷ 91 ∷ 92 ∷ 93 ∷ 94 ∷ 95 ∷ 96 ∷ 97 ∷ 99 ∷ 100 ∷ 101 ∷ 102 ∷ 104 ∷ 105 ∷ 106 ∷ 107 ∷ 108 ∷ 109 ∷ 110 ∷ 111 ∷ 112 ∷ 113 ∷ 114 ∷ 115 ∷ 116 ∷ 117 ∷ 118 ∷ 119 ∷ 120 ∷ 121 ∷ 122 ∷ 123 ∷ 124 ∷ 125 ∷ 126 ∷ 127 ∷ 129 ∷ 130 ∷ 139 ∷ 141 ∷ 142 ∷ 143 ∷ 144 ∷ 145 ∷ 146 ∷ 150 ∷ 151 ∷ 152 ∷ 156 ∷ 160 ∷ 161 ∷ 162 ∷ 163 ∷ 164 ∷ 165 ∷ 166 ∷ 167 ∷ 168 ∷ 169 ∷ 170 ∷ 171 ∷ 172 ∷ 173 ∷ 174 ∷ 175 ∷ 176 ∷ 177 ∷ [] }
    ∷ record { verdicts = reject ∷ confuse ∷ command ∷ agree ∷ command ∷ agree ∷ command ∷ agree ∷ command ∷ discard ∷ agree ∷ accept ∷ reject ∷ free ∷ accept ∷ command ∷ agree ∷ discard ∷ command ∷ agree ∷ command ∷ fail ∷ command ∷ discard ∷ fail ∷ command ∷ fail ∷ discard ∷ accept ∷ command ∷ agree ∷ reject ∷ command ∷ reject ∷ confuse ∷ command ∷ agree ∷ accept ∷ command ∷ free ∷ accept ∷ command ∷ agree ∷ command ∷ agree ∷ refusal ∷ reject ∷ refusal ∷ command ∷ agree ∷ free ∷ confuse ∷ command ∷ agree ∷ reject ∷ free ∷ accept ∷ accept ∷ accept ∷ discard ∷ command ∷ accept ∷ command ∷ accept ∷ reject ∷ reject ∷ command ∷ accept ∷ discard ∷ reject ∷ accept ∷ free ∷ accept ∷ accept ∷ discard ∷ refusal ∷ reject ∷ command ∷ accept ∷ confuse ∷ accept ∷ confuse ∷ reject ∷ reject ∷ discard ∷ free ∷ command ∷ agree ∷ accept ∷ accept ∷ accept ∷ reject ∷ reject ∷ confuse ∷ discard ∷ refusal ∷ refusal ∷ accept ∷ free ∷ accept ∷ reject ∷ confuse ∷ refusal ∷ command ∷ reject ∷ command ∷ fail ∷ refusal ∷ discard ∷ command ∷ fail ∷ command ∷ agree ∷ command ∷ fail ∷ refusal ∷ discard ∷ command ∷ discard ∷ agree ∷ refusal ∷ command ∷ refusal ∷ fail ∷ command ∷ discard ∷ agree ∷ command ∷ discard ∷ free ∷ command ∷ fail ∷ discard ∷ discard ∷ refusal ∷ refusal ∷ accept ∷ discard ∷ reject ∷ free ∷ refusal ∷ command ∷ fail ∷ []; kept = 3 ∷ 4 ∷ 5 ∷ 6 ∷ 7 ∷ 8 ∷ 9 ∷ 10 ∷ 11 ∷ 12 ∷ 14 ∷ 15 ∷ 16 ∷ 17 ∷ 18 ∷ 19 ∷ 20 ∷ 28 ∷ 29 ∷ 30 ∷ 31 ∷ 36 ∷ 37 ∷ 38 ∷ 40 ∷ 41 ∷ 42 ∷ 43 ∷ 44 ∷ 45 ∷ 46 ∷ 48 ∷ 49 ∷ 50 ∷ 51 ∷ 53 ∷ 54 ∷ 56 ∷ 57 ∷ 58 ∷ 59 ∷ 60 ∷ 62 ∷ 64 ∷ 68 ∷ 69 ∷ 71 ∷ 72 ∷ 73 ∷ 74 ∷ 75 ∷ 76 ∷ 79 ∷ 81 ∷ 85 ∷ 86 ∷ 87 ∷ 88 ∷ 89 ∷ 90 ∷ 91 ∷ 95 ∷ 96 ∷ 97 ∷ 98 ∷ 99 ∷ 100 ∷ 103 ∷ 108 ∷ 109 ∷ 112 ∷ 113 ∷ 116 ∷ 117 ∷ 118 ∷ 119 ∷ 120 ∷ 121 ∷ 125 ∷ 126 ∷ 127 ∷ 130 ∷ 133 ∷ 134 ∷ 135 ∷ 136 ∷ 137 ∷ 138 ∷ 140 ∷ 141 ∷ [] }
    ∷ record { verdicts = discard ∷ discard ∷ accept ∷ discard ∷ reject ∷ command ∷ fail ∷ reject ∷ command ∷ accept ∷ accept ∷ command ∷ agree ∷ reject ∷ free ∷ command ∷ fail ∷ refusal ∷ refusal ∷ command ∷ agree ∷ refusal ∷ command ∷ agree ∷ refusal ∷ accept ∷ reject ∷ reject ∷ accept ∷ command ∷ free ∷ accept ∷ reject ∷ accept ∷ command ∷ discard ∷ agree ∷ command ∷ fail ∷ command ∷ agree ∷ []; kept = 1 ∷ 2 ∷ 3 ∷ 4 ∷ 10 ∷ 11 ∷ 12 ∷ 13 ∷ 15 ∷ 18 ∷ 19 ∷ 20 ∷ 21 ∷ 22 ∷ 23 ∷ 24 ∷ 25 ∷ 26 ∷ 29 ∷ 31 ∷ 32 ∷ 34 ∷ 35 ∷ 36 ∷ 37 ∷ 40 ∷ 41 ∷ [] }
    ∷ record { verdicts = command ∷ discard ∷ fail ∷ command ∷ discard ∷ discard ∷ refusal ∷ refusal ∷ discard ∷ discard ∷ fail ∷ accept ∷ reject ∷ command ∷ accept ∷ discard ∷ reject ∷ command ∷ fail ∷ refusal ∷ reject ∷ reject ∷ refusal ∷ discard ∷ accept ∷ accept ∷ command ∷ fail ∷ reject ∷ refusal ∷ refusal ∷ discard ∷ refusal ∷ command ∷ agree ∷ free ∷ discard ∷ reject ∷ discard ∷ refusal ∷ command ∷ fail ∷ confuse ∷ command ∷ agree ∷ accept ∷ discard ∷ discard ∷ reject ∷ command ∷ discard ∷ agree ∷ accept ∷ discard ∷ command ∷ agree ∷ discard ∷ command ∷ discard ∷ agree ∷ command ∷ fail ∷ refusal ∷ discard ∷ refusal ∷ accept ∷ accept ∷ command ∷ discard ∷ discard ∷ discard ∷ refusal ∷ fail ∷ command ∷ agree ∷ confuse ∷ reject ∷ command ∷ fail ∷ refusal ∷ reject ∷ command ∷ fail ∷ command ∷ fail ∷ discard ∷ reject ∷ command ∷ agree ∷ discard ∷ []; kept = 12 ∷ 15 ∷ 16 ∷ 20 ∷ 23 ∷ 24 ∷ 25 ∷ 26 ∷ 30 ∷ 31 ∷ 32 ∷ 33 ∷ 34 ∷ 35 ∷ 36 ∷ 37 ∷ 39 ∷ 40 ∷ 44 ∷ 45 ∷ 46 ∷ 47 ∷ 48 ∷ 50 ∷ 51 ∷ 52 ∷ 53 ∷ 54 ∷ 55 ∷ 56 ∷ 57 ∷ 58 ∷ 59 ∷ 60 ∷ 63 ∷ 64 ∷ 65 ∷ 66 ∷ 67 ∷ 74 ∷ 75 ∷ 80 ∷ 86 ∷ 88 ∷ 89 ∷ 90 ∷ [] }
    ∷ record { verdicts = command ∷ agree ∷ command ∷ discard ∷ refusal ∷ refusal ∷ fail ∷ command ∷ refusal ∷ discard ∷ refusal ∷ fail ∷ confuse ∷ confuse ∷ reject ∷ free ∷ refusal ∷ command ∷ refusal ∷ agree ∷ discard ∷ discard ∷ command ∷ agree ∷ discard ∷ command ∷ discard ∷ discard ∷ fail ∷ accept ∷ reject ∷ discard ∷ command ∷ agree ∷ accept ∷ confuse ∷ refusal ∷ command ∷ discard ∷ agree ∷ command ∷ refusal ∷ discard ∷ fail ∷ free ∷ discard ∷ refusal ∷ accept ∷ reject ∷ command ∷ agree ∷ refusal ∷ command ∷ fail ∷ refusal ∷ refusal ∷ reject ∷ command ∷ agree ∷ reject ∷ refusal ∷ free ∷ discard ∷ refusal ∷ reject ∷ command ∷ discard ∷ discard ∷ discard ∷ refusal ∷ agree ∷ command ∷ fail ∷ command ∷ fail ∷ reject ∷ accept ∷ reject ∷ command ∷ agree ∷ accept ∷ free ∷ discard ∷ command ∷ fail ∷ command ∷ discard ∷ agree ∷ refusal ∷ refusal ∷ command ∷ discard ∷ fail ∷ free ∷ command ∷ refusal ∷ fail ∷ refusal ∷ command ∷ agree ∷ command ∷ discard ∷ discard ∷ agree ∷ discard ∷ []; kept = 1 ∷ 2 ∷ 16 ∷ 17 ∷ 18 ∷ 19 ∷ 20 ∷ 21 ∷ 22 ∷ 23 ∷ 24 ∷ 25 ∷ 30 ∷ 32 ∷ 33 ∷ 34 ∷ 35 ∷ 37 ∷ 38 ∷ 39 ∷ 40 ∷ 45 ∷ 46 ∷ 47 ∷ 48 ∷ 50 ∷ 51 ∷ 52 ∷ 55 ∷ 56 ∷ 58 ∷ 59 ∷ 61 ∷ 62 ∷ 63 ∷ 64 ∷ 66 ∷ 67 ∷ 68 ∷ 69 ∷ 70 ∷ 71 ∷ 77 ∷ 79 ∷ 80 ∷ 81 ∷ 82 ∷ 83 ∷ 86 ∷ 87 ∷ 88 ∷ 89 ∷ 90 ∷ 94 ∷ 98 ∷ 99 ∷ 100 ∷ 101 ∷ 102 ∷ 103 ∷ 104 ∷ 105 ∷ [] }
    ∷ record { verdicts = accept ∷ refusal ∷ confuse ∷ command ∷ fail ∷ command ∷ agree ∷ discard ∷ command ∷ refusal ∷ refusal ∷ fail ∷ command ∷ discard ∷ fail ∷ discard ∷ refusal ∷ discard ∷ refusal ∷ command ∷ accept ∷ free ∷ refusal ∷ command ∷ refusal ∷ agree ∷ reject ∷ refusal ∷ refusal ∷ discard ∷ refusal ∷ refusal ∷ discard ∷ discard ∷ discard ∷ reject ∷ free ∷ command ∷ discard ∷ fail ∷ command ∷ agree ∷ confuse ∷ reject ∷ refusal ∷ reject ∷ free ∷ refusal ∷ command ∷ discard ∷ free ∷ command ∷ discard ∷ fail ∷ confuse ∷ accept ∷ command ∷ accept ∷ refusal ∷ refusal ∷ command ∷ fail ∷ confuse ∷ accept ∷ refusal ∷ command ∷ accept ∷ command ∷ agree ∷ refusal ∷ command ∷ agree ∷ refusal ∷ command ∷ agree ∷ discard ∷ free ∷ reject ∷ discard ∷ accept ∷ free ∷ confuse ∷ accept ∷ discard ∷ refusal ∷ refusal ∷ refusal ∷ discard ∷ refusal ∷ discard ∷ discard ∷ discard ∷ confuse ∷ reject ∷ command ∷ fail ∷ discard ∷ reject ∷ refusal ∷ reject ∷ command ∷ refusal ∷ fail ∷ discard ∷ command ∷ reject ∷ command ∷ fail ∷ reject ∷ free ∷ discard ∷ command ∷ refusal ∷ fail ∷ confuse ∷ discard ∷ command ∷ fail ∷ refusal ∷ discard ∷ accept ∷ discard ∷ command ∷ discard ∷ discard ∷ fail ∷ discard ∷ command ∷ refusal ∷ agree ∷ discard ∷ discard ∷ accept ∷ discard ∷ command ∷ fail ∷ command ∷ reject ∷ accept ∷ discard ∷ reject ∷ reject ∷ discard ∷ command ∷ refusal ∷ agree ∷ accept ∷ free ∷ reject ∷ accept ∷ reject ∷ command ∷ fail ∷ reject ∷ discard ∷ refusal ∷ discard ∷ refusal ∷ discard ∷ accept ∷ confuse ∷ accept ∷ reject ∷ free ∷ accept ∷ command ∷ agree ∷ confuse ∷ command ∷ agree ∷ discard ∷ refusal ∷ command ∷ reject ∷ free ∷ reject ∷ command ∷ discard ∷ discard ∷ free ∷ command ∷ discard ∷ discard ∷ fail ∷ command ∷ agree ∷ reject ∷ confuse ∷ accept ∷ command ∷ discard ∷ fail ∷ refusal ∷ []; kept = 1 ∷ 2 ∷ 6 ∷ 7 ∷ 8 ∷ 16 ∷ 17 ∷ 18 ∷ 19 ∷ 21 ∷ 22 ∷ 23 ∷ 24 ∷ 25 ∷ 26 ∷ 28 ∷ 29 ∷ 30 ∷ 31 ∷ 32 ∷ 33 ∷ 34 ∷ 35 ∷ 37 ∷ 41 ∷ 42 ∷ 45 ∷ 47 ∷ 48 ∷ 56 ∷ 58 ∷ 59 ∷ 60 ∷ 64 ∷ 65 ∷ 67 ∷ 68 ∷ 69 ∷ 70 ∷ 71 ∷ 72 ∷ 73 ∷ 74 ∷ 75 ∷ 76 ∷ 77 ∷ 79 ∷ 80 ∷ 81 ∷ 83 ∷ 84 ∷ 85 ∷ 86 ∷ 87 ∷ 88 ∷ 89 ∷ 90 ∷ 91 ∷ 92 ∷ 97 ∷ 99 ∷ 104 ∷ 110 ∷ 111 ∷ 116 ∷ 119 ∷ 120 ∷ 121 ∷ 122 ∷ 127 ∷ 128 ∷ 129 ∷ 130 ∷ 131 ∷ 132 ∷ 133 ∷ 134 ∷ 139 ∷ 140 ∷ 143 ∷ 144 ∷ 145 ∷ 146 ∷ 147 ∷ 148 ∷ 150 ∷ 155 ∷ 156 ∷ 157 ∷ 158 ∷ 159 ∷ 160 ∷ 162 ∷ 164 ∷ 165 ∷ 166 ∷ 167 ∷ 169 ∷ 170 ∷ 171 ∷ 172 ∷ 175 ∷ 185 ∷ 186 ∷ 189 ∷ 193 ∷ [] }
    ∷ record { verdicts = command ∷ discard ∷ agree ∷ accept ∷ reject ∷ command ∷ fail ∷ command ∷ discard ∷ fail ∷ refusal ∷ refusal ∷ accept ∷ command ∷ discard ∷ fail ∷ accept ∷ command ∷ discard ∷ discard ∷ fail ∷ accept ∷ command ∷ fail ∷ refusal ∷ accept ∷ command ∷ fail ∷ command ∷ agree ∷ refusal ∷ command ∷ discard ∷ fail ∷ discard ∷ confuse ∷ command ∷ fail ∷ accept ∷ free ∷ accept ∷ command ∷ discard ∷ fail ∷ reject ∷ reject ∷ free ∷ confuse ∷ command ∷ discard ∷ discard ∷ fail ∷ command ∷ agree ∷ reject ∷ command ∷ discard ∷ free ∷ discard ∷ refusal ∷ confuse ∷ discard ∷ refusal ∷ discard ∷ discard ∷ command ∷ agree ∷ discard ∷ command ∷ agree ∷ command ∷ agree ∷ reject ∷ refusal ∷ discard ∷ discard ∷ free ∷ discard ∷ command ∷ agree ∷ command ∷ discard ∷ agree ∷ reject ∷ discard ∷ accept ∷ command ∷ fail ∷ free ∷ command ∷ discard ∷ discard ∷ agree ∷ command ∷ fail ∷ discard ∷ free ∷ reject ∷ accept ∷ refusal ∷ accept ∷ reject ∷ command ∷ discard ∷ fail ∷ accept ∷ command ∷ reject ∷ accept ∷ accept ∷ accept ∷ command ∷ agree ∷ discard ∷ command ∷ discard ∷ agree ∷ reject ∷ reject ∷ free ∷ command ∷ discard ∷ fail ∷ discard ∷ discard ∷ discard ∷ reject ∷ command ∷ agree ∷ []; kept = 1 ∷ 2 ∷ 3 ∷ 4 ∷ 11 ∷ 12 ∷ 13 ∷ 17 ∷ 22 ∷ 25 ∷ 26 ∷ 29 ∷ 30 ∷ 31 ∷ 35 ∷ 39 ∷ 40 ∷ 41 ∷ 47 ∷ 53 ∷ 54 ∷ 58 ∷ 59 ∷ 60 ∷ 62 ∷ 63 ∷ 64 ∷ 65 ∷ 66 ∷ 67 ∷ 68 ∷ 69 ∷ 70 ∷ 71 ∷ 72 ∷ 74 ∷ 75 ∷ 76 ∷ 77 ∷ 78 ∷ 79 ∷ 80 ∷ 81 ∷ 82 ∷ 83 ∷ 85 ∷ 86 ∷ 89 ∷ 90 ∷ 91 ∷ 92 ∷ 93 ∷ 96 ∷ 97 ∷ 99 ∷ 100 ∷ 101 ∷ 106 ∷ 109 ∷ 110 ∷ 111 ∷ 112 ∷ 113 ∷ 114 ∷ 115 ∷ 116 ∷ 117 ∷ 120 ∷ 124 ∷ 125 ∷ 126 ∷ 128 ∷ 129 ∷ [] }
    ∷ record { verdicts = reject ∷ command ∷ fail ∷ command ∷ agree ∷ refusal ∷ accept ∷ discard ∷ command ∷ discard ∷ refusal ∷ discard ∷ free ∷ command ∷ agree ∷ accept ∷ command ∷ agree ∷ command ∷ agree ∷ reject ∷ accept ∷ refusal ∷ refusal ∷ reject ∷ free ∷ command ∷ agree ∷ command ∷ fail ∷ accept ∷ reject ∷ accept ∷ command ∷ agree ∷ accept ∷ command ∷ agree ∷ command ∷ discard ∷ []; kept = 4 ∷ 5 ∷ 6 ∷ 7 ∷ 8 ∷ 13 ∷ 14 ∷ 15 ∷ 16 ∷ 17 ∷ 18 ∷ 19 ∷ 20 ∷ 22 ∷ 23 ∷ 24 ∷ 26 ∷ 27 ∷ 28 ∷ 31 ∷ 33 ∷ 34 ∷ 35 ∷ 36 ∷ 37 ∷ 38 ∷ 39 ∷ 40 ∷ [] }
    ∷ record { verdicts = discard ∷ refusal ∷ confuse ∷ discard ∷ accept ∷ reject ∷ command ∷ agree ∷ accept ∷ refusal ∷ refusal ∷ accept ∷ refusal ∷ command ∷ agree ∷ reject ∷ refusal ∷ accept ∷ free ∷ refusal ∷ accept ∷ free ∷ accept ∷ reject ∷ command ∷ fail ∷ command ∷ fail ∷ command ∷ discard ∷ reject ∷ discard ∷ free ∷ command ∷ discard ∷ discard ∷ agree ∷ accept ∷ discard ∷ free ∷ discard ∷ discard ∷ refusal ∷ discard ∷ refusal ∷ refusal ∷ discard ∷ refusal ∷ []; kept = 1 ∷ 2 ∷ 4 ∷ 5 ∷ 7 ∷ 8 ∷ 9 ∷ 10 ∷ 11 ∷ 12 ∷ 13 ∷ 14 ∷ 15 ∷ 17 ∷ 18 ∷ 19 ∷ 20 ∷ 21 ∷ 22 ∷ 23 ∷ 32 ∷ 33 ∷ 34 ∷ 35 ∷ 36 ∷ 37 ∷ 38 ∷ 39 ∷ 40 ∷ 41 ∷ 42 ∷ 43 ∷ 44 ∷ 45 ∷ 46 ∷ 47 ∷ 48 ∷ [] }
    ∷ record { verdicts = command ∷ agree ∷ reject ∷ free ∷ reject ∷ refusal ∷ discard ∷ accept ∷ command ∷ agree ∷ discard ∷ discard ∷ discard ∷ accept ∷ reject ∷ discard ∷ free ∷ command ∷ agree ∷ command ∷ agree ∷ accept ∷ reject ∷ free ∷ command ∷ refusal ∷ agree ∷ free ∷ command ∷ discard ∷ discard ∷ discard ∷ agree ∷ command ∷ agree ∷ command ∷ fail ∷ refusal ∷ free ∷ accept ∷ command ∷ accept ∷ command ∷ fail ∷ refusal ∷ confuse ∷ command ∷ agree ∷ free ∷ discard ∷ confuse ∷ accept ∷ reject ∷ refusal ∷ reject ∷ accept ∷ command ∷ agree ∷ reject ∷ discard ∷ command ∷ agree ∷ reject ∷ reject ∷ reject ∷ command ∷ discard ∷ free ∷ confuse ∷ discard ∷ refusal ∷ command ∷ agree ∷ command ∷ fail ∷ refusal ∷ refusal ∷ accept ∷ discard ∷ reject ∷ reject ∷ accept ∷ accept ∷ discard ∷ confuse ∷ discard ∷ command ∷ agree ∷ reject ∷ accept ∷ refusal ∷ command ∷ agree ∷ free ∷ accept ∷ command ∷ refusal ∷ agree ∷ command ∷ accept ∷ []; kept = 1 ∷ 2 ∷ 4 ∷ 6 ∷ 7 ∷ 8 ∷ 9 ∷ 10 ∷ 11 ∷ 12 ∷ 13 ∷ 14 ∷ 16 ∷ 17 ∷ 18 ∷ 19 ∷ 20 ∷ 21 ∷ 22 ∷ 24 ∷ 25 ∷ 26 ∷ 27 ∷ 28 ∷ 29 ∷ 30 ∷ 31 ∷ 32 ∷ 33 ∷ 34 ∷ 35 ∷ 38 ∷ 39 ∷ 40 ∷ 42 ∷ 45 ∷ 47 ∷ 48 ∷ 49 ∷ 50 ∷ 52 ∷ 54 ∷ 56 ∷ 57 ∷ 58 ∷ 60 ∷ 61 ∷ 62 ∷ 68 ∷ 70 ∷ 71 ∷ 72 ∷ 73 ∷ 76 ∷ 77 ∷ 78 ∷ 79 ∷ 82 ∷ 83 ∷ 84 ∷ 86 ∷ 87 ∷ 88 ∷ 90 ∷ 91 ∷ 92 ∷ 93 ∷ 94 ∷ 95 ∷ 96 ∷ 97 ∷ 98 ∷ 100 ∷ [] }
    ∷ record { verdicts = accept ∷ free ∷ command ∷ discard ∷ agree ∷ command ∷ agree ∷ discard ∷ command ∷ agree ∷ free ∷ reject ∷ accept ∷ accept ∷ free ∷ command ∷ discard ∷ discard ∷ discard ∷ free ∷ command ∷ fail ∷ command ∷ discard ∷ agree ∷ command ∷ agree ∷ command ∷ discard ∷ refusal ∷ agree ∷ confuse ∷ reject ∷ discard ∷ reject ∷ reject ∷ free ∷ reject ∷ refusal ∷ discard ∷ reject ∷ refusal ∷ refusal ∷ discard ∷ discard ∷ accept ∷ free ∷ discard ∷ refusal ∷ accept ∷ accept ∷ command ∷ agree ∷ refusal ∷ command ∷ refusal ∷ discard ∷ fail ∷ refusal ∷ reject ∷ command ∷ discard ∷ accept ∷ discard ∷ command ∷ agree ∷ command ∷ accept ∷ confuse ∷ command ∷ reject ∷ free ∷ reject ∷ reject ∷ discard ∷ accept ∷ discard ∷ command ∷ agree ∷ command ∷ refusal ∷ agree ∷ command ∷ agree ∷ free ∷ accept ∷ free ∷ confuse ∷ accept ∷ free ∷ command ∷ agree ∷ confuse ∷ confuse ∷ discard ∷ confuse ∷ confuse ∷ reject ∷ reject ∷ reject ∷ free ∷ refusal ∷ command ∷ agree ∷ accept ∷ command ∷ discard ∷ discard ∷ discard ∷ fail ∷ accept ∷ reject ∷ discard ∷ accept ∷ reject ∷ command ∷ agree ∷ free ∷ accept ∷ command ∷ agree ∷ command ∷ agree ∷ confuse ∷ discard ∷ reject ∷ reject ∷ command ∷ agree ∷ confuse ∷ command ∷ refusal ∷ accept ∷ confuse ∷ discard ∷ accept ∷ accept ∷ command ∷ accept ∷ discard ∷ free ∷ []; kept = 1 ∷ 2 ∷ 3 ∷ 4 ∷ 5 ∷ 6 ∷ 7 ∷ 8 ∷ 9 ∷ 10 ∷ 11 ∷ 13 ∷ 14 ∷ 15 ∷ 23 ∷ 24 ∷ 25 ∷ 26 ∷ 27 ∷ 28 ∷ 29 ∷ 30 ∷ 31 ∷ 34 ∷ 37 ∷ 39 ∷ 40 ∷ 42 ∷ 43 ∷ 44 ∷ 45 ∷ 46 ∷ 47 ∷ 48 ∷ 49 ∷ 50 ∷ 51 ∷ 52 ∷ 53 ∷ 54 ∷ 59 ∷ 63 ∷ 64 ∷ 65 ∷ 66 ∷ 68 ∷ 72 ∷ 75 ∷ 76 ∷ 77 ∷ 78 ∷ 79 ∷ 80 ∷ 81 ∷ 82 ∷ 83 ∷ 84 ∷ 85 ∷ 86 ∷ 87 ∷ 89 ∷ 90 ∷ 91 ∷ 92 ∷ 95 ∷ 101 ∷ 102 ∷ 103 ∷ 104 ∷ 105 ∷ 111 ∷ 113 ∷ 114 ∷ 116 ∷ 117 ∷ 118 ∷ 119 ∷ 120 ∷ 121 ∷ 122 ∷ 123 ∷ 125 ∷ 128 ∷ 129 ∷ 133 ∷ 135 ∷ 136 ∷ 137 ∷ 139 ∷ 140 ∷ 141 ∷ [] }
    ∷ record { verdicts = discard ∷ reject ∷ reject ∷ discard ∷ reject ∷ discard ∷ command ∷ fail ∷ command ∷ agree ∷ accept ∷ accept ∷ reject ∷ command ∷ refusal ∷ discard ∷ agree ∷ confuse ∷ discard ∷ accept ∷ refusal ∷ discard ∷ accept ∷ command ∷ fail ∷ command ∷ fail ∷ command ∷ fail ∷ accept ∷ accept ∷ discard ∷ refusal ∷ command ∷ fail ∷ free ∷ confuse ∷ accept ∷ discard ∷ discard ∷ reject ∷ command ∷ refusal ∷ agree ∷ command ∷ agree ∷ command ∷ fail ∷ accept ∷ command ∷ discard ∷ agree ∷ command ∷ accept ∷ discard ∷ refusal ∷ confuse ∷ command ∷ agree ∷ command ∷ agree ∷ discard ∷ confuse ∷ refusal ∷ refusal ∷ discard ∷ accept ∷ accept ∷ command ∷ discard ∷ agree ∷ discard ∷ command ∷ fail ∷ command ∷ agree ∷ discard ∷ refusal ∷ []; kept = 1 ∷ 4 ∷ 6 ∷ 9 ∷ 10 ∷ 11 ∷ 12 ∷ 14 ∷ 15 ∷ 16 ∷ 17 ∷ 19 ∷ 20 ∷ 21 ∷ 22 ∷ 23 ∷ 30 ∷ 31 ∷ 32 ∷ 33 ∷ 36 ∷ 38 ∷ 39 ∷ 40 ∷ 42 ∷ 43 ∷ 44 ∷ 45 ∷ 46 ∷ 49 ∷ 50 ∷ 51 ∷ 52 ∷ 54 ∷ 55 ∷ 56 ∷ 58 ∷ 59 ∷ 60 ∷ 61 ∷ 62 ∷ 64 ∷ 65 ∷ 66 ∷ 67 ∷ 68 ∷ 69 ∷ 70 ∷ 71 ∷ 72 ∷ 75 ∷ 76 ∷ 77 ∷ 78 ∷ [] }
    ∷ record { verdicts = discard ∷ accept ∷ accept ∷ reject ∷ command ∷ agree ∷ discard ∷ command ∷ agree ∷ discard ∷ command ∷ discard ∷ agree ∷ refusal ∷ free ∷ reject ∷ reject ∷ command ∷ fail ∷ accept ∷ command ∷ fail ∷ discard ∷ command ∷ agree ∷ refusal ∷ reject ∷ refusal ∷ discard ∷ accept ∷ accept ∷ command ∷ free ∷ refusal ∷ refusal ∷ discard ∷ command ∷ refusal ∷ fail ∷ discard ∷ reject ∷ accept ∷ refusal ∷ reject ∷ free ∷ accept ∷ command ∷ discard ∷ agree ∷ accept ∷ reject ∷ reject ∷ reject ∷ command ∷ agree ∷ accept ∷ confuse ∷ confuse ∷ discard ∷ command ∷ discard ∷ refusal ∷ confuse ∷ discard ∷ agree ∷ reject ∷ command ∷ fail ∷ free ∷ accept ∷ accept ∷ free ∷ reject ∷ refusal ∷ command ∷ agree ∷ command ∷ discard ∷ agree ∷ discard ∷ accept ∷ refusal ∷ discard ∷ reject ∷ free ∷ command ∷ agree ∷ accept ∷ command ∷ agree ∷ accept ∷ command ∷ discard ∷ discard ∷ fail ∷ refusal ∷ confuse ∷ command ∷ fail ∷ command ∷ agree ∷ command ∷ discard ∷ agree ∷ command ∷ agree ∷ reject ∷ command ∷ agree ∷ accept ∷ command ∷ discard ∷ agree ∷ reject ∷ free ∷ command ∷ fail ∷ reject ∷ command ∷ agree ∷ refusal ∷ reject ∷ command ∷ discard ∷ discard ∷ agree ∷ command ∷ discard ∷ free ∷ accept ∷ command ∷ reject ∷ command ∷ agree ∷ accept ∷ reject ∷ accept ∷ command ∷ agree ∷ command ∷ fail ∷ accept ∷ confuse ∷ discard ∷ refusal ∷ command ∷ agree ∷ accept ∷ free ∷ command ∷ []; kept = 1 ∷ 2 ∷ 3 ∷ 5 ∷ 6 ∷ 7 ∷ 8 ∷ 9 ∷ 10 ∷ 11 ∷ 12 ∷ 13 ∷ 14 ∷ 15 ∷ 20 ∷ 23 ∷ 24 ∷ 25 ∷ 26 ∷ 28 ∷ 29 ∷ 30 ∷ 31 ∷ 33 ∷ 34 ∷ 35 ∷ 36 ∷ 40 ∷ 42 ∷ 43 ∷ 45 ∷ 46 ∷ 47 ∷ 48 ∷ 49 ∷ 50 ∷ 54 ∷ 55 ∷ 56 ∷ 59 ∷ 60 ∷ 61 ∷ 62 ∷ 64 ∷ 65 ∷ 69 ∷ 70 ∷ 71 ∷ 72 ∷ 74 ∷ 75 ∷ 76 ∷ 77 ∷ 78 ∷ 79 ∷ 80 ∷ 81 ∷ 82 ∷ 83 ∷ 85 ∷ 86 ∷ 87 ∷ 88 ∷ 89 ∷ 90 ∷ 91 ∷ 96 ∷ 100 ∷ 101 ∷ 102 ∷ 103 ∷ 104 ∷ 105 ∷ 106 ∷ 108 ∷ 109 ∷ 110 ∷ 111 ∷ 112 ∷ 113 ∷ 115 ∷ 119 ∷ 120 ∷ 121 ∷ 123 ∷ 124 ∷ 125 ∷ 126 ∷ 129 ∷ 130 ∷ 133 ∷ 134 ∷ 135 ∷ 137 ∷ 138 ∷ 139 ∷ 142 ∷ 144 ∷ 145 ∷ 146 ∷ 147 ∷ 148 ∷ 149 ∷ 150 ∷ [] }
    ∷ record { verdicts = discard ∷ refusal ∷ refusal ∷ discard ∷ command ∷ refusal ∷ agree ∷ accept ∷ command ∷ fail ∷ command ∷ agree ∷ refusal ∷ command ∷ agree ∷ command ∷ fail ∷ command ∷ discard ∷ discard ∷ free ∷ confuse ∷ confuse ∷ confuse ∷ command ∷ discard ∷ agree ∷ accept ∷ refusal ∷ command ∷ discard ∷ agree ∷ reject ∷ reject ∷ free ∷ reject ∷ refusal ∷ reject ∷ confuse ∷ reject ∷ refusal ∷ command ∷ agree ∷ command ∷ discard ∷ agree ∷ accept ∷ confuse ∷ confuse ∷ reject ∷ free ∷ []; kept = 1 ∷ 2 ∷ 3 ∷ 4 ∷ 5 ∷ 6 ∷ 7 ∷ 8 ∷ 11 ∷ 12 ∷ 13 ∷ 14 ∷ 15 ∷ 21 ∷ 25 ∷ 26 ∷ 27 ∷ 28 ∷ 29 ∷ 30 ∷ 31 ∷ 32 ∷ 35 ∷ 37 ∷ 41 ∷ 42 ∷ 43 ∷ 44 ∷ 45 ∷ 46 ∷ 47 ∷ 51 ∷ [] }
    ∷ record { verdicts = confuse ∷ accept ∷ discard ∷ command ∷ agree ∷ accept ∷ reject ∷ accept ∷ command ∷ discard ∷ accept ∷ accept ∷ free ∷ reject ∷ accept ∷ refusal ∷ refusal ∷ reject ∷ command ∷ fail ∷ refusal ∷ refusal ∷ command ∷ refusal ∷ discard ∷ agree ∷ discard ∷ refusal ∷ command ∷ discard ∷ fail ∷ command ∷ agree ∷ discard ∷ accept ∷ command ∷ fail ∷ command ∷ fail ∷ confuse ∷ discard ∷ command ∷ discard ∷ fail ∷ reject ∷ refusal ∷ command ∷ agree ∷ reject ∷ command ∷ refusal ∷ accept ∷ command ∷ discard ∷ agree ∷ accept ∷ discard ∷ discard ∷ command ∷ discard ∷ free ∷ reject ∷ refusal ∷ discard ∷ command ∷ fail ∷ discard ∷ refusal ∷ confuse ∷ command ∷ discard ∷ free ∷ refusal ∷ discard ∷ accept ∷ accept ∷ command ∷ fail ∷ command ∷ reject ∷ command ∷ fail ∷ command ∷ reject ∷ reject ∷ accept ∷ free ∷ accept ∷ command ∷ refusal ∷ agree ∷ command ∷ discard ∷ []; kept = 2 ∷ 3 ∷ 4 ∷ 5 ∷ 6 ∷ 8 ∷ 11 ∷ 12 ∷ 13 ∷ 15 ∷ 16 ∷ 17 ∷ 21 ∷ 22 ∷ 23 ∷ 24 ∷ 25 ∷ 26 ∷ 27 ∷ 28 ∷ 32 ∷ 33 ∷ 34 ∷ 35 ∷ 41 ∷ 46 ∷ 47 ∷ 48 ∷ 52 ∷ 53 ∷ 54 ∷ 55 ∷ 56 ∷ 57 ∷ 58 ∷ 61 ∷ 63 ∷ 64 ∷ 67 ∷ 68 ∷ 73 ∷ 74 ∷ 75 ∷ 76 ∷ 86 ∷ 87 ∷ 88 ∷ 89 ∷ 90 ∷ 91 ∷ 92 ∷ 93 ∷ [] }
    ∷ record { verdicts = refusal ∷ refusal ∷ discard ∷ discard ∷ reject ∷ reject ∷ accept ∷ discard ∷ command ∷ agree ∷ command ∷ free ∷ reject ∷ command ∷ fail ∷ command ∷ discard ∷ fail ∷ accept ∷ command ∷ fail ∷ command ∷ agree ∷ confuse ∷ command ∷ fail ∷ refusal ∷ discard ∷ accept ∷ discard ∷ command ∷ confuse ∷ agree ∷ discard ∷ command ∷ accept ∷ discard ∷ free ∷ refusal ∷ reject ∷ refusal ∷ discard ∷ accept ∷ discard ∷ command ∷ agree ∷ command ∷ refusal ∷ fail ∷ refusal ∷ command ∷ agree ∷ command ∷ agree ∷ command ∷ reject ∷ discard ∷ reject ∷ accept ∷ command ∷ agree ∷ refusal ∷ refusal ∷ command ∷ agree ∷ command ∷ fail ∷ command ∷ agree ∷ command ∷ agree ∷ reject ∷ refusal ∷ refusal ∷ command ∷ reject ∷ command ∷ agree ∷ refusal ∷ free ∷ refusal ∷ refusal ∷ accept ∷ confuse ∷ discard ∷ reject ∷ refusal ∷ reject ∷ reject ∷ reject ∷ command ∷ fail ∷ command ∷ discard ∷ discard ∷ agree ∷ command ∷ agree ∷ command ∷ fail ∷ command ∷ refusal ∷ refusal ∷ []; kept = 1 ∷ 2 ∷ 3 ∷ 4 ∷ 7 ∷ 8 ∷ 9 ∷ 10 ∷ 12 ∷ 19 ∷ 22 ∷ 23 ∷ 27 ∷ 28 ∷ 29 ∷ 30 ∷ 31 ∷ 33 ∷ 34 ∷ 36 ∷ 37 ∷ 38 ∷ 39 ∷ 41 ∷ 42 ∷ 43 ∷ 44 ∷ 45 ∷ 46 ∷ 50 ∷ 51 ∷ 52 ∷ 53 ∷ 54 ∷ 57 ∷ 59 ∷ 60 ∷ 61 ∷ 62 ∷ 63 ∷ 64 ∷ 65 ∷ 68 ∷ 69 ∷ 70 ∷ 71 ∷ 73 ∷ 74 ∷ 77 ∷ 78 ∷ 79 ∷ 80 ∷ 81 ∷ 82 ∷ 83 ∷ 85 ∷ 87 ∷ 93 ∷ 94 ∷ 95 ∷ 96 ∷ 97 ∷ 98 ∷ 101 ∷ 102 ∷ 103 ∷ [] }
    ∷ record { verdicts = command ∷ fail ∷ reject ∷ refusal ∷ refusal ∷ discard ∷ command ∷ fail ∷ discard ∷ refusal ∷ refusal ∷ discard ∷ discard ∷ reject ∷ refusal ∷ discard ∷ discard ∷ discard ∷ refusal ∷ refusal ∷ command ∷ discard ∷ agree ∷ discard ∷ command ∷ discard ∷ discard ∷ free ∷ discard ∷ discard ∷ discard ∷ discard ∷ discard ∷ discard ∷ refusal ∷ refusal ∷ reject ∷ discard ∷ refusal ∷ discard ∷ discard ∷ refusal ∷ accept ∷ discard ∷ refusal ∷ discard ∷ discard ∷ discard ∷ discard ∷ discard ∷ discard ∷ discard ∷ discard ∷ discard ∷ accept ∷ command ∷ refusal ∷ refusal ∷ agree ∷ command ∷ fail ∷ reject ∷ discard ∷ discard ∷ discard ∷ refusal ∷ discard ∷ refusal ∷ discard ∷ command ∷ discard ∷ refusal ∷ []; kept = 4 ∷ 5 ∷ 6 ∷ 9 ∷ 10 ∷ 11 ∷ 12 ∷ 13 ∷ 15 ∷ 16 ∷ 17 ∷ 18 ∷ 19 ∷ 20 ∷ 21 ∷ 22 ∷ 23 ∷ 24 ∷ 28 ∷ 29 ∷ 30 ∷ 31 ∷ 32 ∷ 33 ∷ 34 ∷ 35 ∷ 36 ∷ 38 ∷ 39 ∷ 40 ∷ 41 ∷ 42 ∷ 43 ∷ 44 ∷ 45 ∷ 46 ∷ 47 ∷ 48 ∷ 49 ∷ 50 ∷ 51 ∷ 52 ∷ 53 ∷ 54 ∷ 55 ∷ 56 ∷ 57 ∷ 58 ∷ 59 ∷ 63 ∷ 64 ∷ 65 ∷ 66 ∷ 67 ∷ 68 ∷ 69 ∷ 70 ∷ 71 ∷ 72 ∷ [] }
    ∷ record { verdicts = refusal ∷ discard ∷ refusal ∷ reject ∷ discard ∷ discard ∷ discard ∷ refusal ∷ discard ∷ refusal ∷ refusal ∷ discard ∷ discard ∷ discard ∷ discard ∷ discard ∷ discard ∷ accept ∷ refusal ∷ discard ∷ discard ∷ free ∷ discard ∷ accept ∷ discard ∷ discard ∷ command ∷ refusal ∷ discard ∷ fail ∷ discard ∷ refusal ∷ discard ∷ free ∷ command ∷ discard ∷ free ∷ command ∷ discard ∷ refusal ∷ refusal ∷ discard ∷ discard ∷ agree ∷ refusal ∷ reject ∷ refusal ∷ refusal ∷ discard ∷ discard ∷ discard ∷ refusal ∷ refusal ∷ reject ∷ discard ∷ discard ∷ discard ∷ accept ∷ command ∷ fail ∷ command ∷ refusal ∷ discard ∷ agree ∷ discard ∷ discard ∷ reject ∷ refusal ∷ discard ∷ discard ∷ refusal ∷ discard ∷ refusal ∷ discard ∷ reject ∷ discard ∷ refusal ∷ discard ∷ reject ∷ discard ∷ free ∷ discard ∷ refusal ∷ accept ∷ accept ∷ discard ∷ discard ∷ discard ∷ command ∷ fail ∷ discard ∷ refusal ∷ accept ∷ discard ∷ accept ∷ refusal ∷ discard ∷ discard ∷ discard ∷ discard ∷ command ∷ fail ∷ accept ∷ discard ∷ command ∷ accept ∷ discard ∷ reject ∷ discard ∷ discard ∷ refusal ∷ refusal ∷ confuse ∷ refusal ∷ discard ∷ discard ∷ discard ∷ refusal ∷ accept ∷ reject ∷ discard ∷ accept ∷ discard ∷ discard ∷ discard ∷ refusal ∷ discard ∷ refusal ∷ refusal ∷ discard ∷ discard ∷ discard ∷ reject ∷ discard ∷ discard ∷ confuse ∷ accept ∷ confuse ∷ discard ∷ discard ∷ accept ∷ discard ∷ discard ∷ discard ∷ discard ∷ refusal ∷ discard ∷ discard ∷ command ∷ refusal ∷ discard ∷ discard ∷ confuse ∷ fail ∷ accept ∷ discard ∷ accept ∷ command ∷ agree ∷ discard ∷ discard ∷ free ∷ command ∷ refusal ∷ refusal ∷ agree ∷ discard ∷ refusal ∷ discard ∷ discard ∷ refusal ∷ reject ∷ []; kept = 1 ∷ 2 ∷ 3 ∷ 5 ∷ 6 ∷ 7 ∷ 8 ∷ 9 ∷ 10 ∷ 11 ∷ 12 ∷ 13 ∷ 14 ∷ 15 ∷ 16 ∷ 17 ∷ 18 ∷ 19 ∷ 20 ∷ 21 ∷ 22 ∷ 23 ∷ 24 ∷ 25 ∷ 26 ∷ 31 ∷ 32 ∷ 33 ∷ 34 ∷ 38 ∷ 39 ∷ 40 ∷ 41 ∷ 42 ∷ 43 ∷ 44 ∷ 45 ∷ 47 ∷ 48 ∷ 49 ∷ 50 ∷ 51 ∷ 52 ∷ 53 ∷ 55 ∷ 56 ∷ 57 ∷ 58 ∷ 61 ∷ 62 ∷ 63 ∷ 64 ∷ 65 ∷ 66 ∷ 68 ∷ 69 ∷ 70 ∷ 71 ∷ 72 ∷ 73 ∷ 74 ∷ 76 ∷ 77 ∷ 78 ∷ 80 ∷ 81 ∷ 82 ∷ 83 ∷ 84 ∷ 85 ∷ 86 ∷ 87 ∷ 88 ∷ 91 ∷ 92 ∷ 93 ∷ 94 ∷ 95 ∷ 96 ∷ 97 ∷ 98 ∷ 99 ∷ 100 ∷ 103 ∷ 104 ∷ 106 ∷ 107 ∷ 109 ∷ 110 ∷ 111 ∷ 112 ∷ 114 ∷ 115 ∷ 116 ∷ 117 ∷ 118 ∷ 119 ∷ 121 ∷ 122 ∷ 123 ∷ 124 ∷ 125 ∷ 126 ∷ 127 ∷ 128 ∷ 129 ∷ 130 ∷ 131 ∷ 132 ∷ 134 ∷ 135 ∷ 137 ∷ 139 ∷ 140 ∷ 141 ∷ 142 ∷ 143 ∷ 144 ∷ 145 ∷ 146 ∷ 147 ∷ 148 ∷ 155 ∷ 156 ∷ 157 ∷ 158 ∷ 159 ∷ 160 ∷ 161 ∷ 162 ∷ 163 ∷ 164 ∷ 165 ∷ 166 ∷ 167 ∷ 168 ∷ 169 ∷ 170 ∷ 171 ∷ [] }
    ∷ record { verdicts = command ∷ refusal ∷ fail ∷ command ∷ agree ∷ accept ∷ reject ∷ free ∷ command ∷ agree ∷ free ∷ discard ∷ command ∷ agree ∷ accept ∷ command ∷ fail ∷ refusal ∷ command ∷ agree ∷ command ∷ discard ∷ agree ∷ command ∷ agree ∷ command ∷ fail ∷ command ∷ fail ∷ command ∷ discard ∷ agree ∷ refusal ∷ refusal ∷ free ∷ discard ∷ reject ∷ refusal ∷ command ∷ fail ∷ refusal ∷ refusal ∷ accept ∷ free ∷ discard ∷ command ∷ discard ∷ agree ∷ command ∷ agree ∷ discard ∷ refusal ∷ discard ∷ command ∷ agree ∷ command ∷ agree ∷ command ∷ discard ∷ fail ∷ refusal ∷ command ∷ discard ∷ agree ∷ refusal ∷ []; kept = 4 ∷ 5 ∷ 6 ∷ 8 ∷ 9 ∷ 10 ∷ 11 ∷ 12 ∷ 13 ∷ 14 ∷ 15 ∷ 18 ∷ 19 ∷ 20 ∷ 21 ∷ 22 ∷ 23 ∷ 24 ∷ 25 ∷ 30 ∷ 31 ∷ 32 ∷ 33 ∷ 34 ∷ 35 ∷ 36 ∷ 38 ∷ 41 ∷ 42 ∷ 43 ∷ 44 ∷ 45 ∷ 46 ∷ 47 ∷ 48 ∷ 49 ∷ 50 ∷ 51 ∷ 52 ∷ 53 ∷ 54 ∷ 55 ∷ 56 ∷ 57 ∷ 61 ∷ 62 ∷ 63 ∷ 64 ∷ 65 ∷ [] }
    ∷ record { verdicts = refusal ∷ discard ∷ accept ∷ reject ∷ discard ∷ discard ∷ free ∷ discard ∷ command ∷ fail ∷ refusal ∷ refusal ∷ command ∷ agree ∷ command ∷ discard ∷ discard ∷ discard ∷ agree ∷ command ∷ agree ∷ reject ∷ command ∷ discard ∷ agree ∷ discard ∷ confuse ∷ command ∷ refusal ∷ discard ∷ discard ∷ agree ∷ command ∷ fail ∷ []; kept = 1 ∷ 2 ∷ 3 ∷ 5 ∷ 6 ∷ 7 ∷ 8 ∷ 11 ∷ 12 ∷ 13 ∷ 14 ∷ 15 ∷ 16 ∷ 17 ∷ 18 ∷ 19 ∷ 20 ∷ 21 ∷ 23 ∷ 24 ∷ 25 ∷ 26 ∷ 28 ∷ 29 ∷ 30 ∷ 31 ∷ 32 ∷ [] }
    ∷ record { verdicts = confuse ∷ discard ∷ accept ∷ confuse ∷ command ∷ free ∷ accept ∷ discard ∷ reject ∷ reject ∷ command ∷ fail ∷ command ∷ fail ∷ discard ∷ confuse ∷ reject ∷ command ∷ fail ∷ command ∷ fail ∷ free ∷ accept ∷ accept ∷ discard ∷ accept ∷ reject ∷ discard ∷ free ∷ discard ∷ confuse ∷ accept ∷ refusal ∷ free ∷ discard ∷ command ∷ free ∷ accept ∷ accept ∷ reject ∷ command ∷ fail ∷ refusal ∷ refusal ∷ accept ∷ discard ∷ confuse ∷ discard ∷ discard ∷ discard ∷ accept ∷ reject ∷ []; kept = 2 ∷ 3 ∷ 6 ∷ 7 ∷ 8 ∷ 15 ∷ 22 ∷ 23 ∷ 24 ∷ 25 ∷ 26 ∷ 28 ∷ 29 ∷ 30 ∷ 32 ∷ 33 ∷ 34 ∷ 35 ∷ 38 ∷ 39 ∷ 43 ∷ 44 ∷ 45 ∷ 46 ∷ 48 ∷ 49 ∷ 50 ∷ 51 ∷ [] }
    ∷ record { verdicts = refusal ∷ command ∷ refusal ∷ agree ∷ command ∷ agree ∷ command ∷ fail ∷ discard ∷ confuse ∷ command ∷ discard ∷ discard ∷ discard ∷ discard ∷ free ∷ command ∷ fail ∷ accept ∷ command ∷ fail ∷ command ∷ agree ∷ reject ∷ reject ∷ confuse ∷ reject ∷ free ∷ accept ∷ discard ∷ discard ∷ free ∷ refusal ∷ command ∷ agree ∷ discard ∷ discard ∷ free ∷ command ∷ agree ∷ command ∷ agree ∷ confuse ∷ reject ∷ accept ∷ refusal ∷ discard ∷ accept ∷ confuse ∷ accept ∷ reject ∷ free ∷ discard ∷ accept ∷ command ∷ free ∷ confuse ∷ discard ∷ accept ∷ reject ∷ free ∷ accept ∷ free ∷ command ∷ fail ∷ command ∷ agree ∷ confuse ∷ command ∷ fail ∷ refusal ∷ free ∷ command ∷ agree ∷ accept ∷ command ∷ agree ∷ command ∷ fail ∷ command ∷ discard ∷ agree ∷ command ∷ agree ∷ refusal ∷ command ∷ discard ∷ free ∷ accept ∷ confuse ∷ reject ∷ accept ∷ free ∷ accept ∷ refusal ∷ refusal ∷ command ∷ agree ∷ command ∷ agree ∷ command ∷ refusal ∷ free ∷ discard ∷ refusal ∷ reject ∷ refusal ∷ accept ∷ accept ∷ command ∷ agree ∷ command ∷ fail ∷ command ∷ reject ∷ reject ∷ discard ∷ reject ∷ refusal ∷ command ∷ fail ∷ refusal ∷ reject ∷ refusal ∷ command ∷ discard ∷ confuse ∷ fail ∷ accept ∷ command ∷ agree ∷ discard ∷ refusal ∷ refusal ∷ confuse ∷ command ∷ agree ∷ confuse ∷ refusal ∷ refusal ∷ free ∷ command ∷ fail ∷ refusal ∷ command ∷ agree ∷ command ∷ discard ∷ agree ∷ discard ∷ reject ∷ accept ∷ refusal ∷ reject ∷ confuse ∷ confuse ∷ confuse ∷ accept ∷ accept ∷ command ∷ agree ∷ discard ∷ command ∷ discard ∷ discard ∷ agree ∷ command ∷ agree ∷ reject ∷ command ∷ discard ∷ fail ∷ refusal ∷ free ∷ reject ∷ refusal ∷ reject ∷ refusal ∷ reject ∷ command ∷ discard ∷ discard ∷ refusal ∷ agree ∷ discard ∷ refusal ∷ refusal ∷ []; kept = 1 ∷ 2 ∷ 3 ∷ 4 ∷ 5 ∷ 6 ∷ 9 ∷ 16 ∷ 19 ∷ 22 ∷ 23 ∷ 28 ∷ 29 ∷ 30 ∷ 31 ∷ 32 ∷ 33 ∷ 34 ∷ 35 ∷ 36 ∷ 37 ∷ 38 ∷ 39 ∷ 40 ∷ 41 ∷ 42 ∷ 45 ∷ 46 ∷ 47 ∷ 48 ∷ 50 ∷ 52 ∷ 53 ∷ 54 ∷ 56 ∷ 58 ∷ 59 ∷ 61 ∷ 62 ∷ 63 ∷ 66 ∷ 67 ∷ 71 ∷ 72 ∷ 73 ∷ 74 ∷ 75 ∷ 76 ∷ 77 ∷ 80 ∷ 81 ∷ 82 ∷ 83 ∷ 84 ∷ 85 ∷ 88 ∷ 89 ∷ 92 ∷ 93 ∷ 94 ∷ 95 ∷ 96 ∷ 97 ∷ 98 ∷ 99 ∷ 100 ∷ 103 ∷ 104 ∷ 105 ∷ 107 ∷ 108 ∷ 109 ∷ 110 ∷ 111 ∷ 117 ∷ 119 ∷ 122 ∷ 124 ∷ 129 ∷ 130 ∷ 131 ∷ 132 ∷ 133 ∷ 134 ∷ 136 ∷ 137 ∷ 139 ∷ 140 ∷ 141 ∷ 144 ∷ 145 ∷ 146 ∷ 147 ∷ 148 ∷ 149 ∷ 150 ∷ 152 ∷ 153 ∷ 158 ∷ 159 ∷ 160 ∷ 161 ∷ 162 ∷ 163 ∷ 164 ∷ 165 ∷ 166 ∷ 167 ∷ 168 ∷ 173 ∷ 174 ∷ 176 ∷ 178 ∷ 180 ∷ 181 ∷ 182 ∷ 183 ∷ 184 ∷ 185 ∷ 186 ∷ 187 ∷ [] }
    ∷ record { verdicts = command ∷ fail ∷ command ∷ discard ∷ discard ∷ discard ∷ agree ∷ command ∷ free ∷ refusal ∷ accept ∷ refusal ∷ refusal ∷ discard ∷ reject ∷ free ∷ command ∷ agree ∷ refusal ∷ accept ∷ command ∷ discard ∷ discard ∷ agree ∷ command ∷ discard ∷ discard ∷ discard ∷ fail ∷ reject ∷ command ∷ agree ∷ accept ∷ refusal ∷ accept ∷ free ∷ command ∷ agree ∷ refusal ∷ accept ∷ refusal ∷ command ∷ refusal ∷ fail ∷ refusal ∷ refusal ∷ confuse ∷ accept ∷ command ∷ agree ∷ accept ∷ accept ∷ discard ∷ reject ∷ discard ∷ accept ∷ command ∷ agree ∷ accept ∷ refusal ∷ command ∷ discard ∷ discard ∷ discard ∷ agree ∷ discard ∷ command ∷ fail ∷ command ∷ agree ∷ accept ∷ command ∷ agree ∷ command ∷ agree ∷ refusal ∷ discard ∷ reject ∷ accept ∷ command ∷ agree ∷ reject ∷ free ∷ confuse ∷ accept ∷ discard ∷ accept ∷ command ∷ confuse ∷ fail ∷ refusal ∷ reject ∷ refusal ∷ command ∷ agree ∷ command ∷ accept ∷ reject ∷ refusal ∷ reject ∷ refusal ∷ accept ∷ discard ∷ command ∷ agree ∷ command ∷ fail ∷ discard ∷ command ∷ agree ∷ command ∷ reject ∷ free ∷ command ∷ discard ∷ agree ∷ refusal ∷ refusal ∷ reject ∷ free ∷ discard ∷ refusal ∷ confuse ∷ discard ∷ discard ∷ accept ∷ []; kept = 3 ∷ 4 ∷ 5 ∷ 6 ∷ 7 ∷ 9 ∷ 10 ∷ 11 ∷ 12 ∷ 13 ∷ 14 ∷ 16 ∷ 17 ∷ 18 ∷ 19 ∷ 20 ∷ 21 ∷ 22 ∷ 23 ∷ 24 ∷ 31 ∷ 32 ∷ 33 ∷ 34 ∷ 35 ∷ 36 ∷ 37 ∷ 38 ∷ 39 ∷ 40 ∷ 41 ∷ 45 ∷ 46 ∷ 48 ∷ 49 ∷ 50 ∷ 51 ∷ 52 ∷ 53 ∷ 55 ∷ 56 ∷ 57 ∷ 58 ∷ 59 ∷ 60 ∷ 61 ∷ 62 ∷ 63 ∷ 64 ∷ 65 ∷ 66 ∷ 69 ∷ 70 ∷ 71 ∷ 72 ∷ 73 ∷ 74 ∷ 75 ∷ 76 ∷ 77 ∷ 79 ∷ 80 ∷ 81 ∷ 83 ∷ 85 ∷ 86 ∷ 87 ∷ 91 ∷ 93 ∷ 94 ∷ 95 ∷ 97 ∷ 99 ∷ 101 ∷ 102 ∷ 103 ∷ 104 ∷ 105 ∷ 108 ∷ 109 ∷ 110 ∷ 113 ∷ 114 ∷ 115 ∷ 116 ∷ 117 ∷ 118 ∷ 120 ∷ 121 ∷ 122 ∷ 124 ∷ 125 ∷ 126 ∷ [] }
    ∷ record { verdicts = command ∷ agree ∷ reject ∷ command ∷ agree ∷ command ∷ agree ∷ command ∷ fail ∷ reject ∷ refusal ∷ discard ∷ accept ∷ command ∷ agree ∷ free ∷ accept ∷ confuse ∷ command ∷ agree ∷ free ∷ accept ∷ reject ∷ discard ∷ discard ∷ refusal ∷ accept ∷ free ∷ command ∷ discard ∷ agree ∷ command ∷ agree ∷ accept ∷ command ∷ fail ∷ command ∷ free ∷ accept ∷ refusal ∷ refusal ∷ []; kept = 1 ∷ 2 ∷ 4 ∷ 5 ∷ 6 ∷ 7 ∷ 11 ∷ 12 ∷ 13 ∷ 14 ∷ 15 ∷ 16 ∷ 17 ∷ 19 ∷ 20 ∷ 21 ∷ 22 ∷ 24 ∷ 25 ∷ 26 ∷ 27 ∷ 28 ∷ 29 ∷ 30 ∷ 31 ∷ 32 ∷ 33 ∷ 34 ∷ 38 ∷ 39 ∷ 40 ∷ 41 ∷ [] }
    ∷ record { verdicts = command ∷ free ∷ accept ∷ command ∷ reject ∷ confuse ∷ discard ∷ command ∷ agree ∷ accept ∷ discard ∷ free ∷ command ∷ agree ∷ command ∷ discard ∷ discard ∷ fail ∷ free ∷ command ∷ free ∷ accept ∷ discard ∷ command ∷ fail ∷ free ∷ discard ∷ command ∷ fail ∷ accept ∷ command ∷ fail ∷ discard ∷ refusal ∷ command ∷ agree ∷ command ∷ discard ∷ agree ∷ refusal ∷ reject ∷ free ∷ accept ∷ refusal ∷ reject ∷ []; kept = 3 ∷ 7 ∷ 8 ∷ 9 ∷ 10 ∷ 11 ∷ 12 ∷ 13 ∷ 14 ∷ 19 ∷ 22 ∷ 23 ∷ 26 ∷ 27 ∷ 30 ∷ 33 ∷ 34 ∷ 35 ∷ 36 ∷ 37 ∷ 38 ∷ 39 ∷ 40 ∷ 42 ∷ 43 ∷ 44 ∷ [] }
    ∷ record { verdicts = accept ∷ confuse ∷ discard ∷ command ∷ refusal ∷ fail ∷ free ∷ accept ∷ command ∷ refusal ∷ accept ∷ refusal ∷ reject ∷ free ∷ command ∷ discard ∷ agree ∷ command ∷ discard ∷ refusal ∷ discard ∷ refusal ∷ free ∷ accept ∷ refusal ∷ command ∷ accept ∷ accept ∷ accept ∷ accept ∷ command ∷ fail ∷ free ∷ discard ∷ discard ∷ reject ∷ command ∷ agree ∷ discard ∷ command ∷ discard ∷ fail ∷ accept ∷ command ∷ discard ∷ discard ∷ refusal ∷ agree ∷ command ∷ agree ∷ free ∷ discard ∷ discard ∷ discard ∷ discard ∷ accept ∷ free ∷ refusal ∷ command ∷ discard ∷ fail ∷ command ∷ discard ∷ fail ∷ confuse ∷ confuse ∷ command ∷ discard ∷ discard ∷ agree ∷ accept ∷ free ∷ accept ∷ command ∷ fail ∷ refusal ∷ command ∷ fail ∷ accept ∷ accept ∷ command ∷ confuse ∷ agree ∷ confuse ∷ confuse ∷ confuse ∷ discard ∷ command ∷ accept ∷ command ∷ accept ∷ refusal ∷ discard ∷ reject ∷ free ∷ accept ∷ command ∷ discard ∷ refusal ∷ confuse ∷ free ∷ discard ∷ reject ∷ accept ∷ command ∷ fail ∷ accept ∷ command ∷ agree ∷ command ∷ agree ∷ accept ∷ []; kept = 1 ∷ 3 ∷ 7 ∷ 8 ∷ 11 ∷ 12 ∷ 14 ∷ 15 ∷ 16 ∷ 17 ∷ 23 ∷ 24 ∷ 25 ∷ 27 ∷ 28 ∷ 29 ∷ 30 ∷ 33 ∷ 34 ∷ 35 ∷ 37 ∷ 38 ∷ 39 ∷ 43 ∷ 44 ∷ 45 ∷ 46 ∷ 47 ∷ 48 ∷ 49 ∷ 50 ∷ 51 ∷ 52 ∷ 53 ∷ 54 ∷ 55 ∷ 56 ∷ 57 ∷ 58 ∷ 67 ∷ 68 ∷ 69 ∷ 70 ∷ 71 ∷ 72 ∷ 73 ∷ 76 ∷ 79 ∷ 80 ∷ 81 ∷ 83 ∷ 87 ∷ 89 ∷ 91 ∷ 92 ∷ 93 ∷ 95 ∷ 96 ∷ 101 ∷ 102 ∷ 104 ∷ 107 ∷ 108 ∷ 109 ∷ 110 ∷ 111 ∷ 112 ∷ [] }
    ∷ record { verdicts = discard ∷ refusal ∷ discard ∷ refusal ∷ discard ∷ accept ∷ discard ∷ discard ∷ discard ∷ accept ∷ discard ∷ refusal ∷ refusal ∷ discard ∷ discard ∷ command ∷ agree ∷ free ∷ discard ∷ discard ∷ discard ∷ discard ∷ refusal ∷ accept ∷ discard ∷ command ∷ free ∷ accept ∷ discard ∷ refusal ∷ discard ∷ discard ∷ discard ∷ discard ∷ discard ∷ reject ∷ discard ∷ free ∷ discard ∷ discard ∷ discard ∷ discard ∷ discard ∷ accept ∷ refusal ∷ discard ∷ command ∷ reject ∷ discard ∷ command ∷ agree ∷ discard ∷ command ∷ fail ∷ refusal ∷ discard ∷ reject ∷ discard ∷ command ∷ agree ∷ command ∷ fail ∷ discard ∷ discard ∷ refusal ∷ command ∷ discard ∷ agree ∷ discard ∷ command ∷ fail ∷ discard ∷ discard ∷ discard ∷ discard ∷ discard ∷ discard ∷ command ∷ refusal ∷ refusal ∷ reject ∷ refusal ∷ command ∷ reject ∷ discard ∷ discard ∷ discard ∷ refusal ∷ discard ∷ discard ∷ discard ∷ discard ∷ discard ∷ confuse ∷ reject ∷ refusal ∷ refusal ∷ discard ∷ discard ∷ discard ∷ refusal ∷ refusal ∷ command ∷ agree ∷ command ∷ fail ∷ refusal ∷ discard ∷ discard ∷ confuse ∷ refusal ∷ free ∷ discard ∷ reject ∷ discard ∷ refusal ∷ discard ∷ discard ∷ discard ∷ discard ∷ refusal ∷ refusal ∷ discard ∷ refusal ∷ accept ∷ discard ∷ discard ∷ discard ∷ discard ∷ command ∷ agree ∷ []; kept = 1 ∷ 2 ∷ 3 ∷ 4 ∷ 5 ∷ 6 ∷ 7 ∷ 8 ∷ 9 ∷ 10 ∷ 11 ∷ 12 ∷ 13 ∷ 14 ∷ 15 ∷ 16 ∷ 17 ∷ 18 ∷ 19 ∷ 20 ∷ 21 ∷ 22 ∷ 23 ∷ 24 ∷ 25 ∷ 27 ∷ 28 ∷ 29 ∷ 30 ∷ 31 ∷ 32 ∷ 33 ∷ 34 ∷ 35 ∷ 37 ∷ 38 ∷ 39 ∷ 40 ∷ 41 ∷ 42 ∷ 43 ∷ 44 ∷ 45 ∷ 46 ∷ 49 ∷ 50 ∷ 51 ∷ 52 ∷ 55 ∷ 56 ∷ 58 ∷ 59 ∷ 60 ∷ 63 ∷ 64 ∷ 65 ∷ 66 ∷ 67 ∷ 68 ∷ 69 ∷ 72 ∷ 73 ∷ 74 ∷ 75 ∷ 76 ∷ 77 ∷ 82 ∷ 85 ∷ 86 ∷ 87 ∷ 88 ∷ 89 ∷ 90 ∷ 91 ∷ 92 ∷ 93 ∷ 96 ∷ 97 ∷ 98 ∷ 99 ∷ 100 ∷ 101 ∷ 102 ∷ 103 ∷ 104 ∷ 107 ∷ 108 ∷ 109 ∷ 111 ∷ 112 ∷ 113 ∷ 115 ∷ 116 ∷ 117 ∷ 118 ∷ 119 ∷ 120 ∷ 121 ∷ 122 ∷ 123 ∷ 124 ∷ 125 ∷ 126 ∷ 127 ∷ 128 ∷ 129 ∷ 130 ∷ 131 ∷ [] }
    ∷ record { verdicts = refusal ∷ command ∷ refusal ∷ free ∷ refusal ∷ accept ∷ command ∷ discard ∷ agree ∷ reject ∷ command ∷ reject ∷ refusal ∷ reject ∷ free ∷ refusal ∷ refusal ∷ command ∷ discard ∷ agree ∷ refusal ∷ reject ∷ discard ∷ free ∷ discard ∷ accept ∷ accept ∷ command ∷ accept ∷ command ∷ agree ∷ discard ∷ command ∷ fail ∷ discard ∷ discard ∷ discard ∷ reject ∷ refusal ∷ accept ∷ command ∷ fail ∷ command ∷ refusal ∷ fail ∷ command ∷ agree ∷ command ∷ fail ∷ discard ∷ discard ∷ reject ∷ command ∷ agree ∷ accept ∷ reject ∷ refusal ∷ command ∷ agree ∷ refusal ∷ discard ∷ reject ∷ command ∷ refusal ∷ reject ∷ refusal ∷ accept ∷ command ∷ agree ∷ accept ∷ discard ∷ accept ∷ reject ∷ discard ∷ discard ∷ command ∷ agree ∷ command ∷ agree ∷ command ∷ fail ∷ command ∷ free ∷ reject ∷ command ∷ discard ∷ refusal ∷ discard ∷ discard ∷ refusal ∷ agree ∷ free ∷ discard ∷ command ∷ agree ∷ free ∷ discard ∷ refusal ∷ reject ∷ reject ∷ accept ∷ accept ∷ accept ∷ confuse ∷ command ∷ agree ∷ command ∷ accept ∷ confuse ∷ refusal ∷ accept ∷ accept ∷ command ∷ confuse ∷ agree ∷ command ∷ agree ∷ command ∷ reject ∷ command ∷ reject ∷ refusal ∷ discard ∷ command ∷ fail ∷ command ∷ agree ∷ command ∷ agree ∷ reject ∷ free ∷ discard ∷ command ∷ []; kept = 1 ∷ 5 ∷ 6 ∷ 7 ∷ 8 ∷ 9 ∷ 13 ∷ 15 ∷ 16 ∷ 17 ∷ 18 ∷ 19 ∷ 20 ∷ 21 ∷ 23 ∷ 24 ∷ 25 ∷ 26 ∷ 27 ∷ 29 ∷ 30 ∷ 31 ∷ 32 ∷ 35 ∷ 36 ∷ 37 ∷ 39 ∷ 40 ∷ 46 ∷ 47 ∷ 50 ∷ 51 ∷ 53 ∷ 54 ∷ 55 ∷ 57 ∷ 58 ∷ 59 ∷ 60 ∷ 61 ∷ 66 ∷ 67 ∷ 68 ∷ 69 ∷ 70 ∷ 71 ∷ 72 ∷ 74 ∷ 75 ∷ 76 ∷ 77 ∷ 78 ∷ 79 ∷ 83 ∷ 85 ∷ 86 ∷ 87 ∷ 88 ∷ 89 ∷ 90 ∷ 91 ∷ 92 ∷ 93 ∷ 94 ∷ 95 ∷ 96 ∷ 97 ∷ 98 ∷ 101 ∷ 102 ∷ 103 ∷ 105 ∷ 106 ∷ 108 ∷ 110 ∷ 111 ∷ 112 ∷ 113 ∷ 115 ∷ 116 ∷ 117 ∷ 122 ∷ 123 ∷ 126 ∷ 127 ∷ 128 ∷ 129 ∷ 131 ∷ 132 ∷ 133 ∷ [] }
    ∷ record { verdicts = command ∷ fail ∷ command ∷ discard ∷ agree ∷ discard ∷ free ∷ reject ∷ accept ∷ refusal ∷ refusal ∷ command ∷ accept ∷ command ∷ refusal ∷ agree ∷ command ∷ agree ∷ command ∷ agree ∷ command ∷ refusal ∷ agree ∷ refusal ∷ reject ∷ command ∷ refusal ∷ fail ∷ accept ∷ command ∷ agree ∷ accept ∷ refusal ∷ command ∷ refusal ∷ discard ∷ fail ∷ command ∷ accept ∷ free ∷ command ∷ discard ∷ discard ∷ agree ∷ refusal ∷ refusal ∷ command ∷ agree ∷ accept ∷ confuse ∷ accept ∷ discard ∷ accept ∷ reject ∷ reject ∷ accept ∷ accept ∷ reject ∷ accept ∷ accept ∷ confuse ∷ command ∷ agree ∷ accept ∷ accept ∷ accept ∷ command ∷ agree ∷ discard ∷ command ∷ fail ∷ discard ∷ confuse ∷ discard ∷ command ∷ fail ∷ discard ∷ accept ∷ accept ∷ accept ∷ command ∷ discard ∷ fail ∷ command ∷ discard ∷ discard ∷ discard ∷ agree ∷ discard ∷ free ∷ discard ∷ accept ∷ discard ∷ accept ∷ accept ∷ accept ∷ refusal ∷ refusal ∷ free ∷ refusal ∷ command ∷ discard ∷ []; kept = 3 ∷ 4 ∷ 5 ∷ 6 ∷ 7 ∷ 9 ∷ 10 ∷ 11 ∷ 13 ∷ 14 ∷ 15 ∷ 16 ∷ 17 ∷ 18 ∷ 19 ∷ 20 ∷ 21 ∷ 22 ∷ 23 ∷ 24 ∷ 29 ∷ 30 ∷ 31 ∷ 32 ∷ 33 ∷ 39 ∷ 40 ∷ 41 ∷ 42 ∷ 43 ∷ 44 ∷ 45 ∷ 46 ∷ 47 ∷ 48 ∷ 49 ∷ 51 ∷ 52 ∷ 53 ∷ 56 ∷ 57 ∷ 59 ∷ 60 ∷ 62 ∷ 63 ∷ 64 ∷ 65 ∷ 66 ∷ 67 ∷ 68 ∷ 69 ∷ 72 ∷ 74 ∷ 77 ∷ 78 ∷ 79 ∷ 80 ∷ 84 ∷ 85 ∷ 86 ∷ 87 ∷ 88 ∷ 89 ∷ 90 ∷ 91 ∷ 92 ∷ 93 ∷ 94 ∷ 95 ∷ 96 ∷ 97 ∷ 98 ∷ 99 ∷ 100 ∷ 101 ∷ 102 ∷ [] }
    ∷ record { verdicts = discard ∷ command ∷ discard ∷ discard ∷ refusal ∷ refusal ∷ discard ∷ refusal ∷ discard ∷ discard ∷ fail ∷ command ∷ refusal ∷ fail ∷ confuse ∷ discard ∷ discard ∷ discard ∷ accept ∷ discard ∷ command ∷ refusal ∷ confuse ∷ agree ∷ refusal ∷ refusal ∷ discard ∷ reject ∷ discard ∷ discard ∷ discard ∷ discard ∷ discard ∷ discard ∷ discard ∷ discard ∷ discard ∷ discard ∷ discard ∷ discard ∷ discard ∷ command ∷ agree ∷ discard ∷ discard ∷ free ∷ accept ∷ discard ∷ refusal ∷ discard ∷ discard ∷ command ∷ refusal ∷ fail ∷ discard ∷ discard ∷ command ∷ accept ∷ confuse ∷ accept ∷ discard ∷ free ∷ discard ∷ confuse ∷ discard ∷ command ∷ agree ∷ refusal ∷ refusal ∷ discard ∷ accept ∷ refusal ∷ discard ∷ accept ∷ discard ∷ refusal ∷ discard ∷ discard ∷ discard ∷ refusal ∷ command ∷ discard ∷ agree ∷ refusal ∷ discard ∷ command ∷ discard ∷ agree ∷ discard ∷ refusal ∷ discard ∷ discard ∷ discard ∷ command ∷ agree ∷ refusal ∷ accept ∷ command ∷ refusal ∷ fail ∷ accept ∷ reject ∷ refusal ∷ discard ∷ discard ∷ command ∷ discard ∷ refusal ∷ discard ∷ refusal ∷ fail ∷ accept ∷ discard ∷ discard ∷ discard ∷ discard ∷ discard ∷ refusal ∷ command ∷ refusal ∷ agree ∷ discard ∷ accept ∷ discard ∷ refusal ∷ discard ∷ accept ∷ confuse ∷ discard ∷ discard ∷ discard ∷ command ∷ agree ∷ command ∷ discard ∷ refusal ∷ fail ∷ free ∷ discard ∷ refusal ∷ accept ∷ command ∷ refusal ∷ discard ∷ accept ∷ refusal ∷ discard ∷ discard ∷ command ∷ fail ∷ discard ∷ confuse ∷ discard ∷ accept ∷ discard ∷ refusal ∷ discard ∷ command ∷ fail ∷ refusal ∷ command ∷ refusal ∷ fail ∷ discard ∷ command ∷ discard ∷ agree ∷ refusal ∷ discard ∷ discard ∷ command ∷ fail ∷ discard ∷ discard ∷ refusal ∷ discard ∷ discard ∷ discard ∷ command ∷ agree ∷ []; kept = 1 ∷ 16 ∷ 17 ∷ 18 ∷ 19 ∷ 20 ∷ 21 ∷ 22 ∷ 24 ∷ 25 ∷ 26 ∷ 27 ∷ 29 ∷ 30 ∷ 31 ∷ 32 ∷ 33 ∷ 34 ∷ 35 ∷ 36 ∷ 37 ∷ 38 ∷ 39 ∷ 40 ∷ 41 ∷ 42 ∷ 43 ∷ 44 ∷ 45 ∷ 46 ∷ 47 ∷ 48 ∷ 49 ∷ 50 ∷ 51 ∷ 55 ∷ 56 ∷ 58 ∷ 60 ∷ 61 ∷ 62 ∷ 63 ∷ 65 ∷ 66 ∷ 67 ∷ 68 ∷ 69 ∷ 70 ∷ 71 ∷ 72 ∷ 73 ∷ 74 ∷ 75 ∷ 76 ∷ 77 ∷ 78 ∷ 79 ∷ 80 ∷ 81 ∷ 82 ∷ 83 ∷ 84 ∷ 85 ∷ 86 ∷ 87 ∷ 88 ∷ 89 ∷ 90 ∷ 91 ∷ 92 ∷ 93 ∷ 94 ∷ 95 ∷ 96 ∷ 97 ∷ 101 ∷ 103 ∷ 104 ∷ 105 ∷ 112 ∷ 113 ∷ 114 ∷ 115 ∷ 116 ∷ 117 ∷ 118 ∷ 119 ∷ 120 ∷ 121 ∷ 122 ∷ 123 ∷ 124 ∷ 125 ∷ 126 ∷ 127 ∷ 129 ∷ 130 ∷ 131 ∷ 132 ∷ 133 ∷ 138 ∷ 139 ∷ 140 ∷ 141 ∷ 145 ∷ 146 ∷ 147 ∷ 148 ∷ 151 ∷ 153 ∷ 154 ∷ 155 ∷ 156 ∷ 157 ∷ 160 ∷ 164 ∷ 165 ∷ 166 ∷ 167 ∷ 168 ∷ 169 ∷ 170 ∷ 173 ∷ 174 ∷ 175 ∷ 176 ∷ 177 ∷ 178 ∷ 179 ∷ 180 ∷ [] }
    ∷ record { verdicts = refusal ∷ discard ∷ command ∷ fail ∷ accept ∷ confuse ∷ reject ∷ accept ∷ discard ∷ free ∷ confuse ∷ reject ∷ command ∷ discard ∷ agree ∷ reject ∷ discard ∷ free ∷ command ∷ discard ∷ agree ∷ command ∷ fail ∷ accept ∷ free ∷ accept ∷ command ∷ fail ∷ command ∷ agree ∷ command ∷ accept ∷ command ∷ fail ∷ command ∷ fail ∷ discard ∷ command ∷ reject ∷ refusal ∷ accept ∷ accept ∷ discard ∷ discard ∷ command ∷ fail ∷ refusal ∷ command ∷ agree ∷ reject ∷ free ∷ command ∷ fail ∷ reject ∷ command ∷ fail ∷ refusal ∷ command ∷ refusal ∷ discard ∷ discard ∷ fail ∷ accept ∷ command ∷ agree ∷ command ∷ accept ∷ discard ∷ refusal ∷ accept ∷ accept ∷ discard ∷ command ∷ agree ∷ refusal ∷ free ∷ accept ∷ refusal ∷ accept ∷ reject ∷ accept ∷ command ∷ agree ∷ reject ∷ command ∷ agree ∷ accept ∷ discard ∷ accept ∷ command ∷ free ∷ command ∷ fail ∷ reject ∷ refusal ∷ accept ∷ command ∷ refusal ∷ fail ∷ command ∷ agree ∷ command ∷ confuse ∷ discard ∷ agree ∷ accept ∷ reject ∷ command ∷ accept ∷ refusal ∷ confuse ∷ accept ∷ reject ∷ refusal ∷ refusal ∷ accept ∷ command ∷ discard ∷ agree ∷ reject ∷ accept ∷ discard ∷ discard ∷ command ∷ agree ∷ reject ∷ reject ∷ command ∷ agree ∷ discard ∷ accept ∷ command ∷ agree ∷ reject ∷ accept ∷ free ∷ reject ∷ confuse ∷ accept ∷ command ∷ fail ∷ accept ∷ command ∷ fail ∷ accept ∷ refusal ∷ reject ∷ free ∷ command ∷ []; kept = 1 ∷ 2 ∷ 5 ∷ 8 ∷ 9 ∷ 10 ∷ 13 ∷ 14 ∷ 15 ∷ 17 ∷ 18 ∷ 19 ∷ 20 ∷ 21 ∷ 24 ∷ 25 ∷ 26 ∷ 29 ∷ 30 ∷ 32 ∷ 37 ∷ 40 ∷ 41 ∷ 42 ∷ 43 ∷ 44 ∷ 47 ∷ 48 ∷ 49 ∷ 51 ∷ 57 ∷ 63 ∷ 64 ∷ 65 ∷ 67 ∷ 68 ∷ 69 ∷ 70 ∷ 71 ∷ 72 ∷ 73 ∷ 74 ∷ 75 ∷ 76 ∷ 77 ∷ 78 ∷ 79 ∷ 81 ∷ 82 ∷ 83 ∷ 85 ∷ 86 ∷ 87 ∷ 88 ∷ 89 ∷ 91 ∷ 95 ∷ 96 ∷ 100 ∷ 101 ∷ 102 ∷ 104 ∷ 105 ∷ 106 ∷ 109 ∷ 110 ∷ 112 ∷ 114 ∷ 115 ∷ 116 ∷ 117 ∷ 118 ∷ 119 ∷ 121 ∷ 122 ∷ 123 ∷ 124 ∷ 125 ∷ 128 ∷ 129 ∷ 130 ∷ 131 ∷ 132 ∷ 133 ∷ 135 ∷ 136 ∷ 139 ∷ 142 ∷ 145 ∷ 146 ∷ 148 ∷ 149 ∷ [] }
    ∷ record { verdicts = command ∷ discard ∷ refusal ∷ fail ∷ command ∷ discard ∷ refusal ∷ discard ∷ refusal ∷ refusal ∷ fail ∷ refusal ∷ discard ∷ refusal ∷ refusal ∷ command ∷ fail ∷ accept ∷ confuse ∷ reject ∷ command ∷ discard ∷ fail ∷ discard ∷ reject ∷ command ∷ reject ∷ accept ∷ command ∷ agree ∷ discard ∷ command ∷ agree ∷ command ∷ accept ∷ accept ∷ discard ∷ confuse ∷ confuse ∷ discard ∷ free ∷ command ∷ refusal ∷ discard ∷ refusal ∷ agree ∷ confuse ∷ free ∷ accept ∷ reject ∷ discard ∷ reject ∷ accept ∷ refusal ∷ accept ∷ accept ∷ command ∷ fail ∷ discard ∷ command ∷ agree ∷ accept ∷ command ∷ discard ∷ discard ∷ agree ∷ free ∷ command ∷ fail ∷ discard ∷ reject ∷ discard ∷ accept ∷ reject ∷ accept ∷ refusal ∷ command ∷ agree ∷ discard ∷ reject ∷ confuse ∷ command ∷ fail ∷ reject ∷ refusal ∷ free ∷ discard ∷ accept ∷ free ∷ command ∷ discard ∷ fail ∷ command ∷ discard ∷ fail ∷ discard ∷ command ∷ fail ∷ command ∷ agree ∷ command ∷ fail ∷ reject ∷ free ∷ command ∷ fail ∷ discard ∷ command ∷ discard ∷ discard ∷ discard ∷ agree ∷ accept ∷ reject ∷ free ∷ reject ∷ discard ∷ discard ∷ command ∷ discard ∷ agree ∷ refusal ∷ discard ∷ command ∷ discard ∷ fail ∷ command ∷ agree ∷ command ∷ agree ∷ reject ∷ accept ∷ reject ∷ discard ∷ command ∷ fail ∷ free ∷ command ∷ discard ∷ agree ∷ command ∷ agree ∷ accept ∷ command ∷ refusal ∷ discard ∷ fail ∷ reject ∷ command ∷ refusal ∷ discard ∷ agree ∷ reject ∷ accept ∷ command ∷ fail ∷ command ∷ agree ∷ discard ∷ command ∷ fail ∷ accept ∷ command ∷ fail ∷ discard ∷ discard ∷ accept ∷ free ∷ confuse ∷ refusal ∷ reject ∷ reject ∷ refusal ∷ command ∷ agree ∷ discard ∷ refusal ∷ command ∷ discard ∷ discard ∷ fail ∷ free ∷ reject ∷ accept ∷ confuse ∷ free ∷ accept ∷ discard ∷ []; kept = 12 ∷ 13 ∷ 14 ∷ 15 ∷ 18 ∷ 24 ∷ 28 ∷ 29 ∷ 30 ∷ 31 ∷ 32 ∷ 33 ∷ 35 ∷ 36 ∷ 37 ∷ 40 ∷ 41 ∷ 42 ∷ 43 ∷ 44 ∷ 45 ∷ 46 ∷ 48 ∷ 49 ∷ 51 ∷ 53 ∷ 54 ∷ 55 ∷ 56 ∷ 59 ∷ 60 ∷ 61 ∷ 62 ∷ 63 ∷ 64 ∷ 65 ∷ 66 ∷ 67 ∷ 70 ∷ 72 ∷ 73 ∷ 75 ∷ 76 ∷ 77 ∷ 78 ∷ 79 ∷ 85 ∷ 86 ∷ 87 ∷ 88 ∷ 89 ∷ 96 ∷ 99 ∷ 100 ∷ 104 ∷ 107 ∷ 108 ∷ 109 ∷ 110 ∷ 111 ∷ 112 ∷ 113 ∷ 115 ∷ 117 ∷ 118 ∷ 119 ∷ 120 ∷ 121 ∷ 122 ∷ 123 ∷ 127 ∷ 128 ∷ 129 ∷ 130 ∷ 132 ∷ 134 ∷ 137 ∷ 138 ∷ 139 ∷ 140 ∷ 141 ∷ 142 ∷ 143 ∷ 149 ∷ 150 ∷ 151 ∷ 152 ∷ 154 ∷ 157 ∷ 158 ∷ 159 ∷ 162 ∷ 165 ∷ 166 ∷ 167 ∷ 168 ∷ 170 ∷ 173 ∷ 174 ∷ 175 ∷ 176 ∷ 177 ∷ 182 ∷ 184 ∷ 186 ∷ 187 ∷ 188 ∷ [] }
    ∷ record { verdicts = refusal ∷ reject ∷ accept ∷ refusal ∷ free ∷ accept ∷ accept ∷ accept ∷ command ∷ fail ∷ discard ∷ discard ∷ refusal ∷ command ∷ confuse ∷ discard ∷ refusal ∷ agree ∷ discard ∷ discard ∷ discard ∷ free ∷ command ∷ agree ∷ refusal ∷ command ∷ []; kept = 1 ∷ 3 ∷ 4 ∷ 5 ∷ 6 ∷ 7 ∷ 8 ∷ 11 ∷ 12 ∷ 13 ∷ 14 ∷ 16 ∷ 17 ∷ 18 ∷ 19 ∷ 20 ∷ 21 ∷ 22 ∷ 23 ∷ 24 ∷ 25 ∷ 26 ∷ [] }
    ∷ record { verdicts = command ∷ discard ∷ agree ∷ command ∷ fail ∷ command ∷ fail ∷ accept ∷ confuse ∷ accept ∷ refusal ∷ reject ∷ command ∷ discard ∷ fail ∷ command ∷ discard ∷ agree ∷ command ∷ agree ∷ refusal ∷ command ∷ fail ∷ free ∷ refusal ∷ reject ∷ command ∷ discard ∷ agree ∷ free ∷ command ∷ fail ∷ reject ∷ command ∷ discard ∷ discard ∷ fail ∷ command ∷ discard ∷ fail ∷ accept ∷ refusal ∷ command ∷ fail ∷ discard ∷ confuse ∷ reject ∷ free ∷ command ∷ fail ∷ command ∷ fail ∷ command ∷ free ∷ discard ∷ command ∷ agree ∷ confuse ∷ accept ∷ accept ∷ confuse ∷ accept ∷ reject ∷ reject ∷ discard ∷ reject ∷ reject ∷ free ∷ accept ∷ reject ∷ discard ∷ confuse ∷ accept ∷ command ∷ free ∷ reject ∷ refusal ∷ reject ∷ command ∷ fail ∷ []; kept = 1 ∷ 2 ∷ 3 ∷ 8 ∷ 10 ∷ 11 ∷ 16 ∷ 17 ∷ 18 ∷ 19 ∷ 20 ∷ 21 ∷ 24 ∷ 25 ∷ 27 ∷ 28 ∷ 29 ∷ 30 ∷ 41 ∷ 42 ∷ 45 ∷ 48 ∷ 55 ∷ 56 ∷ 57 ∷ 59 ∷ 60 ∷ 62 ∷ 65 ∷ 68 ∷ 69 ∷ 71 ∷ 73 ∷ 75 ∷ 77 ∷ [] }
    ∷ record { verdicts = confuse ∷ discard ∷ discard ∷ accept ∷ command ∷ refusal ∷ discard ∷ reject ∷ refusal ∷ command ∷ refusal ∷ agree ∷ discard ∷ refusal ∷ accept ∷ discard ∷ reject ∷ discard ∷ accept ∷ accept ∷ refusal ∷ refusal ∷ discard ∷ accept ∷ command ∷ refusal ∷ agree ∷ discard ∷ accept ∷ command ∷ fail ∷ accept ∷ discard ∷ discard ∷ discard ∷ reject ∷ refusal ∷ discard ∷ discard ∷ discard ∷ discard ∷ discard ∷ command ∷ discard ∷ fail ∷ discard ∷ discard ∷ discard ∷ discard ∷ command ∷ agree ∷ refusal ∷ discard ∷ confuse ∷ accept ∷ discard ∷ refusal ∷ discard ∷ []; kept = 2 ∷ 3 ∷ 4 ∷ 9 ∷ 10 ∷ 11 ∷ 12 ∷ 13 ∷ 14 ∷ 15 ∷ 16 ∷ 18 ∷ 19 ∷ 20 ∷ 21 ∷ 22 ∷ 23 ∷ 24 ∷ 25 ∷ 26 ∷ 27 ∷ 28 ∷ 29 ∷ 32 ∷ 33 ∷ 34 ∷ 35 ∷ 37 ∷ 38 ∷ 39 ∷ 40 ∷ 41 ∷ 42 ∷ 46 ∷ 47 ∷ 48 ∷ 49 ∷ 50 ∷ 51 ∷ 52 ∷ 53 ∷ 55 ∷ 56 ∷ 57 ∷ 58 ∷ [] }
    ∷ record { verdicts = discard ∷ refusal ∷ accept ∷ discard ∷ discard ∷ reject ∷ free ∷ command ∷ refusal ∷ discard ∷ fail ∷ command ∷ fail ∷ refusal ∷ discard ∷ command ∷ free ∷ accept ∷ confuse ∷ refusal ∷ confuse ∷ command ∷ fail ∷ command ∷ fail ∷ command ∷ fail ∷ accept ∷ command ∷ fail ∷ accept ∷ discard ∷ accept ∷ reject ∷ command ∷ agree ∷ refusal ∷ command ∷ fail ∷ discard ∷ discard ∷ discard ∷ reject ∷ command ∷ agree ∷ command ∷ fail ∷ discard ∷ free ∷ accept ∷ free ∷ command ∷ agree ∷ command ∷ fail ∷ discard ∷ reject ∷ command ∷ agree ∷ command ∷ agree ∷ reject ∷ refusal ∷ confuse ∷ discard ∷ reject ∷ command ∷ agree ∷ command ∷ fail ∷ command ∷ fail ∷ command ∷ discard ∷ free ∷ command ∷ agree ∷ command ∷ fail ∷ command ∷ discard ∷ fail ∷ command ∷ refusal ∷ agree ∷ confuse ∷ refusal ∷ accept ∷ discard ∷ command ∷ agree ∷ accept ∷ command ∷ discard ∷ free ∷ command ∷ discard ∷ discard ∷ discard ∷ discard ∷ agree ∷ accept ∷ accept ∷ command ∷ discard ∷ agree ∷ confuse ∷ confuse ∷ accept ∷ command ∷ agree ∷ command ∷ fail ∷ reject ∷ confuse ∷ free ∷ command ∷ discard ∷ discard ∷ free ∷ command ∷ []; kept = 1 ∷ 2 ∷ 3 ∷ 4 ∷ 5 ∷ 7 ∷ 14 ∷ 15 ∷ 18 ∷ 20 ∷ 28 ∷ 31 ∷ 32 ∷ 33 ∷ 35 ∷ 36 ∷ 37 ∷ 40 ∷ 41 ∷ 42 ∷ 44 ∷ 45 ∷ 48 ∷ 49 ∷ 50 ∷ 51 ∷ 52 ∷ 53 ∷ 56 ∷ 58 ∷ 59 ∷ 60 ∷ 61 ∷ 63 ∷ 65 ∷ 67 ∷ 68 ∷ 75 ∷ 76 ∷ 77 ∷ 83 ∷ 84 ∷ 85 ∷ 87 ∷ 88 ∷ 89 ∷ 90 ∷ 91 ∷ 92 ∷ 95 ∷ 96 ∷ 97 ∷ 98 ∷ 99 ∷ 100 ∷ 101 ∷ 102 ∷ 103 ∷ 104 ∷ 105 ∷ 106 ∷ 109 ∷ 110 ∷ 111 ∷ 116 ∷ 121 ∷ [] }
    ∷ record { verdicts = discard ∷ refusal ∷ discard ∷ command ∷ refusal ∷ agree ∷ accept ∷ discard ∷ discard ∷ accept ∷ reject ∷ discard ∷ command ∷ discard ∷ fail ∷ command ∷ fail ∷ reject ∷ reject ∷ discard ∷ refusal ∷ reject ∷ accept ∷ refusal ∷ discard ∷ confuse ∷ accept ∷ command ∷ fail ∷ confuse ∷ command ∷ fail ∷ command ∷ fail ∷ command ∷ refusal ∷ fail ∷ reject ∷ reject ∷ reject ∷ command ∷ agree ∷ command ∷ discard ∷ discard ∷ agree ∷ command ∷ fail ∷ confuse ∷ refusal ∷ refusal ∷ confuse ∷ reject ∷ reject ∷ discard ∷ discard ∷ confuse ∷ reject ∷ command ∷ discard ∷ agree ∷ command ∷ discard ∷ refusal ∷ fail ∷ accept ∷ command ∷ agree ∷ command ∷ free ∷ accept ∷ confuse ∷ refusal ∷ confuse ∷ refusal ∷ discard ∷ accept ∷ confuse ∷ accept ∷ accept ∷ command ∷ agree ∷ refusal ∷ command ∷ refusal ∷ discard ∷ fail ∷ discard ∷ refusal ∷ command ∷ agree ∷ reject ∷ accept ∷ discard ∷ discard ∷ free ∷ command ∷ agree ∷ discard ∷ command ∷ agree ∷ reject ∷ free ∷ discard ∷ refusal ∷ reject ∷ refusal ∷ refusal ∷ command ∷ fail ∷ confuse ∷ reject ∷ command ∷ discard ∷ free ∷ accept ∷ accept ∷ command ∷ agree ∷ reject ∷ accept ∷ refusal ∷ reject ∷ free ∷ accept ∷ command ∷ discard ∷ agree ∷ discard ∷ reject ∷ free ∷ command ∷ refusal ∷ agree ∷ free ∷ command ∷ agree ∷ free ∷ accept ∷ command ∷ discard ∷ fail ∷ confuse ∷ confuse ∷ command ∷ reject ∷ discard ∷ accept ∷ reject ∷ command ∷ reject ∷ discard ∷ command ∷ agree ∷ command ∷ agree ∷ discard ∷ refusal ∷ refusal ∷ refusal ∷ refusal ∷ reject ∷ reject ∷ accept ∷ reject ∷ accept ∷ discard ∷ discard ∷ []; kept = 1 ∷ 2 ∷ 3 ∷ 4 ∷ 5 ∷ 6 ∷ 7 ∷ 8 ∷ 9 ∷ 10 ∷ 12 ∷ 20 ∷ 21 ∷ 23 ∷ 24 ∷ 25 ∷ 27 ∷ 41 ∷ 42 ∷ 43 ∷ 44 ∷ 45 ∷ 46 ∷ 50 ∷ 51 ∷ 55 ∷ 56 ∷ 59 ∷ 60 ∷ 61 ∷ 66 ∷ 67 ∷ 68 ∷ 70 ∷ 71 ∷ 73 ∷ 75 ∷ 76 ∷ 77 ∷ 79 ∷ 80 ∷ 81 ∷ 82 ∷ 83 ∷ 88 ∷ 89 ∷ 90 ∷ 91 ∷ 93 ∷ 94 ∷ 95 ∷ 96 ∷ 97 ∷ 98 ∷ 99 ∷ 100 ∷ 101 ∷ 103 ∷ 104 ∷ 105 ∷ 107 ∷ 108 ∷ 116 ∷ 117 ∷ 118 ∷ 119 ∷ 121 ∷ 122 ∷ 124 ∷ 125 ∷ 126 ∷ 127 ∷ 128 ∷ 129 ∷ 131 ∷ 132 ∷ 133 ∷ 134 ∷ 135 ∷ 136 ∷ 137 ∷ 138 ∷ 139 ∷ 147 ∷ 148 ∷ 152 ∷ 153 ∷ 154 ∷ 155 ∷ 156 ∷ 157 ∷ 158 ∷ 159 ∷ 160 ∷ 161 ∷ 164 ∷ 166 ∷ 167 ∷ 168 ∷ [] }
    ∷ record { verdicts = command ∷ agree ∷ reject ∷ discard ∷ command ∷ discard ∷ fail ∷ command ∷ agree ∷ free ∷ discard ∷ discard ∷ command ∷ fail ∷ command ∷ fail ∷ refusal ∷ command ∷ agree ∷ reject ∷ command ∷ fail ∷ discard ∷ command ∷ fail ∷ discard ∷ command ∷ fail ∷ free ∷ command ∷ discard ∷ fail ∷ refusal ∷ discard ∷ command ∷ fail ∷ accept ∷ command ∷ accept ∷ command ∷ confuse ∷ fail ∷ confuse ∷ accept ∷ discard ∷ refusal ∷ reject ∷ command ∷ agree ∷ command ∷ fail ∷ accept ∷ reject ∷ command ∷ reject ∷ command ∷ accept ∷ free ∷ discard ∷ discard ∷ command ∷ agree ∷ accept ∷ accept ∷ command ∷ agree ∷ confuse ∷ discard ∷ reject ∷ refusal ∷ accept ∷ discard ∷ reject ∷ confuse ∷ command ∷ fail ∷ accept ∷ accept ∷ command ∷ agree ∷ command ∷ discard ∷ free ∷ discard ∷ confuse ∷ command ∷ discard ∷ discard ∷ refusal ∷ fail ∷ command ∷ discard ∷ refusal ∷ refusal ∷ refusal ∷ discard ∷ discard ∷ fail ∷ command ∷ agree ∷ reject ∷ command ∷ discard ∷ agree ∷ reject ∷ refusal ∷ discard ∷ reject ∷ accept ∷ reject ∷ command ∷ discard ∷ agree ∷ reject ∷ command ∷ refusal ∷ discard ∷ discard ∷ discard ∷ fail ∷ free ∷ reject ∷ refusal ∷ accept ∷ command ∷ fail ∷ command ∷ agree ∷ command ∷ fail ∷ refusal ∷ refusal ∷ accept ∷ discard ∷ command ∷ reject ∷ command ∷ discard ∷ fail ∷ accept ∷ []; kept = 1 ∷ 2 ∷ 4 ∷ 8 ∷ 9 ∷ 10 ∷ 11 ∷ 12 ∷ 17 ∷ 18 ∷ 19 ∷ 23 ∷ 26 ∷ 29 ∷ 33 ∷ 34 ∷ 37 ∷ 39 ∷ 44 ∷ 45 ∷ 46 ∷ 48 ∷ 49 ∷ 52 ∷ 57 ∷ 58 ∷ 59 ∷ 60 ∷ 61 ∷ 62 ∷ 63 ∷ 64 ∷ 65 ∷ 66 ∷ 68 ∷ 70 ∷ 71 ∷ 72 ∷ 77 ∷ 78 ∷ 79 ∷ 80 ∷ 83 ∷ 84 ∷ 99 ∷ 100 ∷ 102 ∷ 103 ∷ 104 ∷ 106 ∷ 107 ∷ 109 ∷ 111 ∷ 112 ∷ 113 ∷ 121 ∷ 123 ∷ 124 ∷ 127 ∷ 128 ∷ 131 ∷ 132 ∷ 133 ∷ 134 ∷ 140 ∷ [] }
    ∷ record { verdicts = accept ∷ discard ∷ command ∷ fail ∷ accept ∷ confuse ∷ command ∷ agree ∷ confuse ∷ command ∷ agree ∷ confuse ∷ command ∷ fail ∷ accept ∷ command ∷ fail ∷ free ∷ confuse ∷ accept ∷ discard ∷ command ∷ fail ∷ command ∷ fail ∷ reject ∷ accept ∷ free ∷ command ∷ fail ∷ confuse ∷ command ∷ discard ∷ agree ∷ reject ∷ command ∷ discard ∷ fail ∷ reject ∷ free ∷ accept ∷ discard ∷ free ∷ confuse ∷ reject ∷ reject ∷ refusal ∷ command ∷ discard ∷ agree ∷ accept ∷ refusal ∷ refusal ∷ command ∷ discard ∷ agree ∷ free ∷ discard ∷ command ∷ agree ∷ command ∷ agree ∷ accept ∷ command ∷ agree ∷ command ∷ fail ∷ reject ∷ accept ∷ refusal ∷ command ∷ discard ∷ agree ∷ command ∷ discard ∷ discard ∷ discard ∷ free ∷ command ∷ agree ∷ free ∷ command ∷ discard ∷ refusal ∷ discard ∷ fail ∷ reject ∷ refusal ∷ discard ∷ refusal ∷ reject ∷ refusal ∷ command ∷ refusal ∷ discard ∷ refusal ∷ fail ∷ discard ∷ discard ∷ refusal ∷ discard ∷ accept ∷ discard ∷ accept ∷ command ∷ agree ∷ command ∷ fail ∷ command ∷ fail ∷ refusal ∷ free ∷ command ∷ fail ∷ accept ∷ reject ∷ accept ∷ discard ∷ refusal ∷ reject ∷ free ∷ discard ∷ discard ∷ refusal ∷ discard ∷ refusal ∷ accept ∷ discard ∷ refusal ∷ reject ∷ command ∷ agree ∷ command ∷ fail ∷ []; kept = 1 ∷ 2 ∷ 5 ∷ 7 ∷ 8 ∷ 10 ∷ 11 ∷ 15 ∷ 18 ∷ 20 ∷ 21 ∷ 27 ∷ 28 ∷ 32 ∷ 33 ∷ 34 ∷ 40 ∷ 41 ∷ 42 ∷ 43 ∷ 47 ∷ 48 ∷ 49 ∷ 50 ∷ 51 ∷ 52 ∷ 53 ∷ 54 ∷ 55 ∷ 56 ∷ 57 ∷ 58 ∷ 59 ∷ 60 ∷ 61 ∷ 62 ∷ 63 ∷ 64 ∷ 65 ∷ 69 ∷ 70 ∷ 71 ∷ 72 ∷ 73 ∷ 78 ∷ 79 ∷ 80 ∷ 81 ∷ 88 ∷ 89 ∷ 90 ∷ 92 ∷ 98 ∷ 99 ∷ 100 ∷ 101 ∷ 102 ∷ 103 ∷ 104 ∷ 105 ∷ 106 ∷ 111 ∷ 112 ∷ 115 ∷ 117 ∷ 118 ∷ 119 ∷ 121 ∷ 122 ∷ 123 ∷ 124 ∷ 125 ∷ 126 ∷ 127 ∷ 128 ∷ 129 ∷ 131 ∷ 132 ∷ [] }
    ∷ record { verdicts = discard ∷ accept ∷ command ∷ agree ∷ command ∷ fail ∷ discard ∷ discard ∷ discard ∷ accept ∷ discard ∷ refusal ∷ discard ∷ refusal ∷ accept ∷ discard ∷ accept ∷ discard ∷ refusal ∷ free ∷ refusal ∷ discard ∷ accept ∷ command ∷ refusal ∷ confuse ∷ refusal ∷ discard ∷ free ∷ discard ∷ discard ∷ refusal ∷ discard ∷ discard ∷ discard ∷ refusal ∷ discard ∷ discard ∷ command ∷ refusal ∷ refusal ∷ free ∷ refusal ∷ discard ∷ refusal ∷ refusal ∷ discard ∷ discard ∷ discard ∷ refusal ∷ discard ∷ refusal ∷ accept ∷ command ∷ []; kept = 1 ∷ 2 ∷ 3 ∷ 4 ∷ 7 ∷ 8 ∷ 9 ∷ 10 ∷ 11 ∷ 12 ∷ 13 ∷ 14 ∷ 15 ∷ 16 ∷ 17 ∷ 18 ∷ 19 ∷ 20 ∷ 21 ∷ 22 ∷ 23 ∷ 29 ∷ 30 ∷ 31 ∷ 32 ∷ 33 ∷ 34 ∷ 35 ∷ 36 ∷ 37 ∷ 38 ∷ 43 ∷ 44 ∷ 45 ∷ 46 ∷ 47 ∷ 48 ∷ 49 ∷ 50 ∷ 51 ∷ 52 ∷ 53 ∷ 54 ∷ [] }
    ∷ record { verdicts = command ∷ fail ∷ discard ∷ command ∷ agree ∷ command ∷ agree ∷ confuse ∷ accept ∷ command ∷ discard ∷ agree ∷ accept ∷ refusal ∷ discard ∷ free ∷ accept ∷ reject ∷ discard ∷ reject ∷ accept ∷ command ∷ agree ∷ accept ∷ free ∷ command ∷ agree ∷ reject ∷ refusal ∷ reject ∷ command ∷ fail ∷ reject ∷ refusal ∷ refusal ∷ accept ∷ accept ∷ command ∷ fail ∷ discard ∷ accept ∷ accept ∷ refusal ∷ accept ∷ command ∷ discard ∷ discard ∷ fail ∷ command ∷ fail ∷ discard ∷ refusal ∷ command ∷ agree ∷ reject ∷ command ∷ refusal ∷ agree ∷ command ∷ discard ∷ agree ∷ command ∷ discard ∷ free ∷ discard ∷ command ∷ fail ∷ accept ∷ confuse ∷ refusal ∷ confuse ∷ accept ∷ reject ∷ reject ∷ command ∷ agree ∷ command ∷ agree ∷ reject ∷ reject ∷ command ∷ refusal ∷ agree ∷ accept ∷ discard ∷ command ∷ agree ∷ reject ∷ command ∷ agree ∷ command ∷ agree ∷ command ∷ reject ∷ command ∷ agree ∷ accept ∷ command ∷ accept ∷ reject ∷ command ∷ agree ∷ discard ∷ command ∷ agree ∷ confuse ∷ free ∷ refusal ∷ accept ∷ command ∷ fail ∷ accept ∷ command ∷ discard ∷ accept ∷ confuse ∷ reject ∷ command ∷ fail ∷ refusal ∷ []; kept = 3 ∷ 4 ∷ 5 ∷ 6 ∷ 7 ∷ 9 ∷ 10 ∷ 11 ∷ 12 ∷ 13 ∷ 14 ∷ 15 ∷ 16 ∷ 17 ∷ 19 ∷ 21 ∷ 22 ∷ 23 ∷ 24 ∷ 25 ∷ 26 ∷ 27 ∷ 29 ∷ 34 ∷ 35 ∷ 36 ∷ 37 ∷ 40 ∷ 41 ∷ 42 ∷ 43 ∷ 44 ∷ 51 ∷ 52 ∷ 53 ∷ 54 ∷ 56 ∷ 57 ∷ 58 ∷ 59 ∷ 60 ∷ 61 ∷ 64 ∷ 65 ∷ 68 ∷ 70 ∷ 72 ∷ 75 ∷ 76 ∷ 77 ∷ 78 ∷ 81 ∷ 82 ∷ 83 ∷ 84 ∷ 85 ∷ 86 ∷ 87 ∷ 89 ∷ 90 ∷ 91 ∷ 92 ∷ 95 ∷ 96 ∷ 97 ∷ 99 ∷ 101 ∷ 102 ∷ 103 ∷ 104 ∷ 105 ∷ 107 ∷ 108 ∷ 109 ∷ 112 ∷ 115 ∷ 120 ∷ [] }
    ∷ record { verdicts = refusal ∷ command ∷ refusal ∷ discard ∷ refusal ∷ discard ∷ discard ∷ discard ∷ agree ∷ discard ∷ discard ∷ free ∷ refusal ∷ discard ∷ refusal ∷ discard ∷ discard ∷ discard ∷ discard ∷ discard ∷ command ∷ fail ∷ accept ∷ refusal ∷ discard ∷ discard ∷ command ∷ refusal ∷ agree ∷ refusal ∷ command ∷ agree ∷ reject ∷ refusal ∷ discard ∷ refusal ∷ confuse ∷ discard ∷ discard ∷ refusal ∷ reject ∷ discard ∷ reject ∷ discard ∷ discard ∷ refusal ∷ refusal ∷ discard ∷ reject ∷ command ∷ discard ∷ []; kept = 1 ∷ 2 ∷ 3 ∷ 4 ∷ 5 ∷ 6 ∷ 7 ∷ 8 ∷ 9 ∷ 10 ∷ 11 ∷ 12 ∷ 13 ∷ 14 ∷ 15 ∷ 16 ∷ 17 ∷ 18 ∷ 19 ∷ 20 ∷ 23 ∷ 24 ∷ 25 ∷ 26 ∷ 27 ∷ 28 ∷ 29 ∷ 30 ∷ 31 ∷ 32 ∷ 34 ∷ 35 ∷ 36 ∷ 38 ∷ 39 ∷ 40 ∷ 42 ∷ 44 ∷ 45 ∷ 46 ∷ 47 ∷ 48 ∷ 50 ∷ 51 ∷ [] }
    ∷ record { verdicts = command ∷ fail ∷ command ∷ agree ∷ free ∷ command ∷ fail ∷ accept ∷ command ∷ accept ∷ confuse ∷ accept ∷ discard ∷ command ∷ refusal ∷ free ∷ discard ∷ accept ∷ reject ∷ accept ∷ accept ∷ accept ∷ command ∷ confuse ∷ confuse ∷ agree ∷ discard ∷ accept ∷ command ∷ fail ∷ command ∷ fail ∷ free ∷ command ∷ discard ∷ discard ∷ fail ∷ accept ∷ command ∷ agree ∷ refusal ∷ command ∷ reject ∷ free ∷ discard ∷ discard ∷ discard ∷ refusal ∷ refusal ∷ reject ∷ command ∷ discard ∷ agree ∷ reject ∷ free ∷ command ∷ agree ∷ free ∷ accept ∷ reject ∷ free ∷ accept ∷ command ∷ agree ∷ command ∷ free ∷ accept ∷ accept ∷ refusal ∷ accept ∷ confuse ∷ command ∷ agree ∷ confuse ∷ accept ∷ discard ∷ command ∷ agree ∷ command ∷ reject ∷ command ∷ agree ∷ command ∷ discard ∷ fail ∷ free ∷ accept ∷ free ∷ command ∷ agree ∷ free ∷ command ∷ fail ∷ accept ∷ discard ∷ free ∷ confuse ∷ discard ∷ command ∷ discard ∷ discard ∷ discard ∷ discard ∷ fail ∷ command ∷ agree ∷ reject ∷ free ∷ refusal ∷ accept ∷ []; kept = 3 ∷ 4 ∷ 5 ∷ 8 ∷ 10 ∷ 12 ∷ 13 ∷ 16 ∷ 17 ∷ 18 ∷ 20 ∷ 21 ∷ 22 ∷ 23 ∷ 26 ∷ 27 ∷ 28 ∷ 33 ∷ 38 ∷ 39 ∷ 40 ∷ 41 ∷ 44 ∷ 45 ∷ 46 ∷ 47 ∷ 48 ∷ 49 ∷ 51 ∷ 52 ∷ 53 ∷ 55 ∷ 56 ∷ 57 ∷ 58 ∷ 59 ∷ 61 ∷ 62 ∷ 63 ∷ 64 ∷ 66 ∷ 67 ∷ 68 ∷ 69 ∷ 70 ∷ 72 ∷ 73 ∷ 75 ∷ 76 ∷ 77 ∷ 78 ∷ 81 ∷ 82 ∷ 86 ∷ 87 ∷ 88 ∷ 89 ∷ 90 ∷ 91 ∷ 94 ∷ 95 ∷ 96 ∷ 98 ∷ 105 ∷ 106 ∷ 108 ∷ 109 ∷ 110 ∷ [] }
    ∷ record { verdicts = accept ∷ confuse ∷ refusal ∷ command ∷ fail ∷ command ∷ confuse ∷ fail ∷ accept ∷ refusal ∷ reject ∷ reject ∷ free ∷ accept ∷ free ∷ accept ∷ command ∷ agree ∷ command ∷ agree ∷ command ∷ accept ∷ refusal ∷ command ∷ fail ∷ accept ∷ discard ∷ command ∷ discard ∷ fail ∷ free ∷ confuse ∷ confuse ∷ accept ∷ accept ∷ reject ∷ refusal ∷ confuse ∷ confuse ∷ confuse ∷ command ∷ fail ∷ command ∷ confuse ∷ fail ∷ command ∷ agree ∷ accept ∷ refusal ∷ []; kept = 1 ∷ 3 ∷ 9 ∷ 10 ∷ 13 ∷ 14 ∷ 15 ∷ 16 ∷ 17 ∷ 18 ∷ 19 ∷ 20 ∷ 22 ∷ 23 ∷ 26 ∷ 27 ∷ 31 ∷ 34 ∷ 35 ∷ 37 ∷ 46 ∷ 47 ∷ 48 ∷ 49 ∷ [] }
    ∷ record { verdicts = reject ∷ accept ∷ discard ∷ refusal ∷ command ∷ accept ∷ reject ∷ command ∷ reject ∷ refusal ∷ accept ∷ command ∷ confuse ∷ agree ∷ accept ∷ command ∷ agree ∷ confuse ∷ reject ∷ free ∷ command ∷ agree ∷ discard ∷ refusal ∷ confuse ∷ refusal ∷ reject ∷ command ∷ fail ∷ reject ∷ discard ∷ command ∷ discard ∷ fail ∷ discard ∷ command ∷ agree ∷ reject ∷ refusal ∷ reject ∷ command ∷ agree ∷ free ∷ reject ∷ command ∷ discard ∷ discard ∷ agree ∷ free ∷ refusal ∷ command ∷ fail ∷ reject ∷ accept ∷ discard ∷ free ∷ accept ∷ accept ∷ discard ∷ refusal ∷ refusal ∷ command ∷ agree ∷ accept ∷ refusal ∷ accept ∷ refusal ∷ discard ∷ []; kept = 2 ∷ 3 ∷ 4 ∷ 6 ∷ 10 ∷ 11 ∷ 12 ∷ 14 ∷ 15 ∷ 16 ∷ 17 ∷ 20 ∷ 21 ∷ 22 ∷ 23 ∷ 24 ∷ 26 ∷ 31 ∷ 35 ∷ 36 ∷ 37 ∷ 39 ∷ 41 ∷ 42 ∷ 43 ∷ 45 ∷ 46 ∷ 47 ∷ 48 ∷ 49 ∷ 50 ∷ 54 ∷ 55 ∷ 56 ∷ 57 ∷ 58 ∷ 59 ∷ 60 ∷ 61 ∷ 62 ∷ 63 ∷ 64 ∷ 65 ∷ 66 ∷ 67 ∷ 68 ∷ [] }
    ∷ record { verdicts = discard ∷ discard ∷ refusal ∷ refusal ∷ refusal ∷ confuse ∷ command ∷ agree ∷ reject ∷ command ∷ fail ∷ refusal ∷ accept ∷ accept ∷ accept ∷ free ∷ command ∷ agree ∷ accept ∷ command ∷ discard ∷ refusal ∷ agree ∷ confuse ∷ accept ∷ refusal ∷ accept ∷ confuse ∷ accept ∷ command ∷ agree ∷ command ∷ refusal ∷ agree ∷ refusal ∷ accept ∷ accept ∷ free ∷ accept ∷ discard ∷ reject ∷ discard ∷ reject ∷ command ∷ agree ∷ command ∷ reject ∷ accept ∷ command ∷ fail ∷ reject ∷ free ∷ refusal ∷ command ∷ discard ∷ agree ∷ reject ∷ reject ∷ free ∷ discard ∷ command ∷ agree ∷ refusal ∷ discard ∷ refusal ∷ command ∷ agree ∷ refusal ∷ free ∷ accept ∷ reject ∷ discard ∷ accept ∷ accept ∷ refusal ∷ confuse ∷ refusal ∷ discard ∷ discard ∷ accept ∷ discard ∷ command ∷ agree ∷ refusal ∷ reject ∷ command ∷ discard ∷ agree ∷ free ∷ accept ∷ []; kept = 1 ∷ 2 ∷ 3 ∷ 4 ∷ 5 ∷ 7 ∷ 8 ∷ 12 ∷ 13 ∷ 14 ∷ 15 ∷ 16 ∷ 17 ∷ 18 ∷ 19 ∷ 20 ∷ 21 ∷ 22 ∷ 23 ∷ 25 ∷ 26 ∷ 27 ∷ 29 ∷ 30 ∷ 31 ∷ 32 ∷ 33 ∷ 34 ∷ 35 ∷ 36 ∷ 37 ∷ 38 ∷ 39 ∷ 40 ∷ 42 ∷ 44 ∷ 45 ∷ 48 ∷ 52 ∷ 53 ∷ 54 ∷ 55 ∷ 56 ∷ 59 ∷ 60 ∷ 61 ∷ 62 ∷ 63 ∷ 64 ∷ 65 ∷ 66 ∷ 67 ∷ 68 ∷ 69 ∷ 70 ∷ 72 ∷ 73 ∷ 74 ∷ 75 ∷ 77 ∷ 78 ∷ 79 ∷ 80 ∷ 81 ∷ 82 ∷ 83 ∷ 84 ∷ 86 ∷ 87 ∷ 88 ∷ 89 ∷ 90 ∷ [] }
    ∷ record { verdicts = command ∷ discard ∷ discard ∷ agree ∷ command ∷ discard ∷ discard ∷ free ∷ discard ∷ accept ∷ reject ∷ free ∷ reject ∷ accept ∷ command ∷ agree ∷ refusal ∷ discard ∷ free ∷ command ∷ refusal ∷ agree ∷ discard ∷ accept ∷ refusal ∷ command ∷ agree ∷ accept ∷ command ∷ agree ∷ accept ∷ command ∷ fail ∷ discard ∷ discard ∷ command ∷ fail ∷ discard ∷ accept ∷ discard ∷ command ∷ refusal ∷ free ∷ command ∷ discard ∷ agree ∷ command ∷ fail ∷ refusal ∷ accept ∷ discard ∷ command ∷ fail ∷ discard ∷ discard ∷ reject ∷ confuse ∷ refusal ∷ free ∷ command ∷ agree ∷ refusal ∷ command ∷ agree ∷ reject ∷ confuse ∷ accept ∷ accept ∷ command ∷ discard ∷ free ∷ accept ∷ discard ∷ command ∷ fail ∷ discard ∷ discard ∷ accept ∷ confuse ∷ refusal ∷ discard ∷ refusal ∷ refusal ∷ command ∷ fail ∷ discard ∷ refusal ∷ accept ∷ discard ∷ discard ∷ accept ∷ confuse ∷ refusal ∷ command ∷ refusal ∷ reject ∷ accept ∷ command ∷ agree ∷ accept ∷ accept ∷ command ∷ agree ∷ command ∷ agree ∷ free ∷ command ∷ agree ∷ free ∷ confuse ∷ accept ∷ reject ∷ accept ∷ refusal ∷ refusal ∷ command ∷ discard ∷ reject ∷ reject ∷ refusal ∷ confuse ∷ command ∷ free ∷ confuse ∷ command ∷ refusal ∷ agree ∷ command ∷ discard ∷ fail ∷ accept ∷ refusal ∷ refusal ∷ discard ∷ command ∷ discard ∷ fail ∷ discard ∷ reject ∷ accept ∷ confuse ∷ []; kept = 1 ∷ 2 ∷ 3 ∷ 4 ∷ 8 ∷ 9 ∷ 10 ∷ 12 ∷ 14 ∷ 15 ∷ 16 ∷ 17 ∷ 18 ∷ 19 ∷ 20 ∷ 21 ∷ 22 ∷ 23 ∷ 24 ∷ 25 ∷ 26 ∷ 27 ∷ 28 ∷ 29 ∷ 30 ∷ 31 ∷ 34 ∷ 35 ∷ 38 ∷ 39 ∷ 40 ∷ 43 ∷ 44 ∷ 45 ∷ 46 ∷ 49 ∷ 50 ∷ 51 ∷ 54 ∷ 55 ∷ 58 ∷ 59 ∷ 60 ∷ 61 ∷ 62 ∷ 63 ∷ 64 ∷ 67 ∷ 68 ∷ 71 ∷ 72 ∷ 73 ∷ 76 ∷ 77 ∷ 78 ∷ 80 ∷ 81 ∷ 82 ∷ 83 ∷ 86 ∷ 87 ∷ 88 ∷ 89 ∷ 90 ∷ 91 ∷ 93 ∷ 97 ∷ 98 ∷ 99 ∷ 100 ∷ 101 ∷ 102 ∷ 103 ∷ 104 ∷ 105 ∷ 106 ∷ 107 ∷ 108 ∷ 109 ∷ 111 ∷ 113 ∷ 114 ∷ 115 ∷ 120 ∷ 123 ∷ 125 ∷ 126 ∷ 127 ∷ 131 ∷ 132 ∷ 133 ∷ 134 ∷ 138 ∷ 140 ∷ [] }
    ∷ record { verdicts = command ∷ refusal ∷ agree ∷ command ∷ agree ∷ accept ∷ reject ∷ command ∷ agree ∷ command ∷ refusal ∷ agree ∷ confuse ∷ accept ∷ command ∷ discard ∷ discard ∷ refusal ∷ refusal ∷ refusal ∷ fail ∷ refusal ∷ command ∷ discard ∷ agree ∷ command ∷ fail ∷ reject ∷ refusal ∷ command ∷ agree ∷ reject ∷ command ∷ discard ∷ discard ∷ agree ∷ free ∷ accept ∷ command ∷ fail ∷ refusal ∷ discard ∷ discard ∷ command ∷ agree ∷ accept ∷ free ∷ command ∷ discard ∷ discard ∷ fail ∷ accept ∷ confuse ∷ discard ∷ command ∷ fail ∷ command ∷ agree ∷ command ∷ fail ∷ accept ∷ command ∷ accept ∷ accept ∷ command ∷ agree ∷ reject ∷ reject ∷ command ∷ accept ∷ command ∷ agree ∷ confuse ∷ command ∷ refusal ∷ accept ∷ command ∷ agree ∷ reject ∷ command ∷ agree ∷ refusal ∷ accept ∷ command ∷ fail ∷ accept ∷ accept ∷ accept ∷ accept ∷ command ∷ accept ∷ accept ∷ accept ∷ reject ∷ reject ∷ accept ∷ accept ∷ confuse ∷ confuse ∷ []; kept = 1 ∷ 2 ∷ 3 ∷ 4 ∷ 5 ∷ 6 ∷ 8 ∷ 9 ∷ 10 ∷ 11 ∷ 12 ∷ 14 ∷ 22 ∷ 23 ∷ 24 ∷ 25 ∷ 29 ∷ 30 ∷ 31 ∷ 33 ∷ 34 ∷ 35 ∷ 36 ∷ 37 ∷ 38 ∷ 41 ∷ 42 ∷ 43 ∷ 44 ∷ 45 ∷ 46 ∷ 47 ∷ 52 ∷ 54 ∷ 57 ∷ 58 ∷ 61 ∷ 63 ∷ 64 ∷ 65 ∷ 66 ∷ 70 ∷ 71 ∷ 72 ∷ 76 ∷ 77 ∷ 78 ∷ 80 ∷ 81 ∷ 82 ∷ 83 ∷ 86 ∷ 87 ∷ 88 ∷ 89 ∷ 91 ∷ 92 ∷ 93 ∷ 96 ∷ 97 ∷ [] }
    ∷ record { verdicts = command ∷ discard ∷ discard ∷ discard ∷ fail ∷ accept ∷ reject ∷ free ∷ accept ∷ refusal ∷ command ∷ fail ∷ command ∷ agree ∷ free ∷ accept ∷ command ∷ reject ∷ discard ∷ discard ∷ accept ∷ refusal ∷ discard ∷ free ∷ command ∷ fail ∷ reject ∷ refusal ∷ accept ∷ discard ∷ refusal ∷ discard ∷ command ∷ fail ∷ confuse ∷ accept ∷ reject ∷ reject ∷ discard ∷ reject ∷ discard ∷ free ∷ command ∷ fail ∷ confuse ∷ discard ∷ refusal ∷ command ∷ free ∷ discard ∷ discard ∷ command ∷ agree ∷ reject ∷ accept ∷ confuse ∷ free ∷ discard ∷ discard ∷ discard ∷ refusal ∷ command ∷ fail ∷ reject ∷ command ∷ discard ∷ discard ∷ fail ∷ refusal ∷ discard ∷ reject ∷ refusal ∷ confuse ∷ reject ∷ refusal ∷ discard ∷ discard ∷ command ∷ discard ∷ discard ∷ agree ∷ discard ∷ free ∷ accept ∷ accept ∷ command ∷ confuse ∷ agree ∷ discard ∷ accept ∷ accept ∷ refusal ∷ command ∷ fail ∷ reject ∷ free ∷ command ∷ fail ∷ discard ∷ confuse ∷ discard ∷ command ∷ fail ∷ accept ∷ discard ∷ refusal ∷ command ∷ fail ∷ command ∷ fail ∷ refusal ∷ command ∷ discard ∷ reject ∷ free ∷ command ∷ agree ∷ accept ∷ reject ∷ reject ∷ discard ∷ accept ∷ reject ∷ refusal ∷ reject ∷ refusal ∷ accept ∷ reject ∷ free ∷ confuse ∷ command ∷ refusal ∷ agree ∷ confuse ∷ command ∷ discard ∷ agree ∷ reject ∷ []; kept = 6 ∷ 8 ∷ 9 ∷ 10 ∷ 13 ∷ 14 ∷ 15 ∷ 16 ∷ 19 ∷ 20 ∷ 21 ∷ 22 ∷ 23 ∷ 24 ∷ 28 ∷ 29 ∷ 30 ∷ 31 ∷ 32 ∷ 36 ∷ 39 ∷ 41 ∷ 42 ∷ 46 ∷ 47 ∷ 50 ∷ 51 ∷ 52 ∷ 53 ∷ 55 ∷ 57 ∷ 58 ∷ 59 ∷ 60 ∷ 61 ∷ 69 ∷ 70 ∷ 72 ∷ 75 ∷ 76 ∷ 77 ∷ 78 ∷ 79 ∷ 80 ∷ 81 ∷ 82 ∷ 83 ∷ 84 ∷ 85 ∷ 86 ∷ 88 ∷ 89 ∷ 90 ∷ 91 ∷ 92 ∷ 96 ∷ 99 ∷ 101 ∷ 104 ∷ 105 ∷ 106 ∷ 111 ∷ 115 ∷ 116 ∷ 117 ∷ 118 ∷ 121 ∷ 122 ∷ 124 ∷ 126 ∷ 127 ∷ 129 ∷ 131 ∷ 132 ∷ 133 ∷ 135 ∷ 136 ∷ 137 ∷ [] }
    ∷ record { verdicts = accept ∷ accept ∷ free ∷ reject ∷ discard ∷ discard ∷ confuse ∷ discard ∷ reject ∷ command ∷ discard ∷ agree ∷ command ∷ fail ∷ free ∷ command ∷ fail ∷ accept ∷ refusal ∷ reject ∷ free ∷ reject ∷ command ∷ discard ∷ discard ∷ fail ∷ accept ∷ command ∷ accept ∷ refusal ∷ command ∷ agree ∷ confuse ∷ command ∷ agree ∷ command ∷ fail ∷ command ∷ agree ∷ refusal ∷ discard ∷ reject ∷ free ∷ command ∷ fail ∷ command ∷ fail ∷ accept ∷ discard ∷ command ∷ agree ∷ accept ∷ command ∷ fail ∷ accept ∷ reject ∷ reject ∷ command ∷ refusal ∷ agree ∷ refusal ∷ command ∷ fail ∷ command ∷ agree ∷ accept ∷ reject ∷ reject ∷ refusal ∷ free ∷ []; kept = 1 ∷ 2 ∷ 3 ∷ 5 ∷ 6 ∷ 8 ∷ 10 ∷ 11 ∷ 12 ∷ 15 ∷ 18 ∷ 19 ∷ 21 ∷ 27 ∷ 29 ∷ 30 ∷ 31 ∷ 32 ∷ 34 ∷ 35 ∷ 38 ∷ 39 ∷ 40 ∷ 41 ∷ 43 ∷ 48 ∷ 49 ∷ 50 ∷ 51 ∷ 52 ∷ 55 ∷ 58 ∷ 59 ∷ 60 ∷ 61 ∷ 64 ∷ 65 ∷ 66 ∷ 69 ∷ 70 ∷ [] }
    ∷ record { verdicts = confuse ∷ accept ∷ accept ∷ reject ∷ accept ∷ command ∷ agree ∷ accept ∷ command ∷ agree ∷ free ∷ accept ∷ reject ∷ reject ∷ free ∷ refusal ∷ command ∷ agree ∷ refusal ∷ accept ∷ refusal ∷ free ∷ discard ∷ command ∷ fail ∷ refusal ∷ command ∷ agree ∷ confuse ∷ reject ∷ free ∷ command ∷ discard ∷ agree ∷ command ∷ agree ∷ command ∷ []; kept = 2 ∷ 3 ∷ 5 ∷ 6 ∷ 7 ∷ 8 ∷ 9 ∷ 10 ∷ 11 ∷ 12 ∷ 15 ∷ 16 ∷ 17 ∷ 18 ∷ 19 ∷ 20 ∷ 21 ∷ 22 ∷ 23 ∷ 26 ∷ 27 ∷ 28 ∷ 31 ∷ 32 ∷ 33 ∷ 34 ∷ 35 ∷ 36 ∷ 37 ∷ [] }
    ∷ record { verdicts = reject ∷ command ∷ fail ∷ accept ∷ command ∷ refusal ∷ free ∷ refusal ∷ discard ∷ confuse ∷ reject ∷ reject ∷ confuse ∷ discard ∷ discard ∷ accept ∷ refusal ∷ accept ∷ command ∷ reject ∷ command ∷ agree ∷ accept ∷ free ∷ accept ∷ accept ∷ discard ∷ command ∷ agree ∷ command ∷ fail ∷ command ∷ agree ∷ refusal ∷ command ∷ refusal ∷ refusal ∷ agree ∷ discard ∷ refusal ∷ accept ∷ discard ∷ confuse ∷ command ∷ agree ∷ command ∷ agree ∷ free ∷ command ∷ fail ∷ reject ∷ reject ∷ reject ∷ refusal ∷ discard ∷ accept ∷ []; kept = 4 ∷ 7 ∷ 8 ∷ 9 ∷ 14 ∷ 15 ∷ 16 ∷ 17 ∷ 18 ∷ 21 ∷ 22 ∷ 23 ∷ 24 ∷ 25 ∷ 26 ∷ 27 ∷ 28 ∷ 29 ∷ 32 ∷ 33 ∷ 34 ∷ 35 ∷ 36 ∷ 37 ∷ 38 ∷ 39 ∷ 40 ∷ 41 ∷ 42 ∷ 44 ∷ 45 ∷ 46 ∷ 47 ∷ 48 ∷ 54 ∷ 55 ∷ 56 ∷ [] }
    ∷ record { verdicts = discard ∷ refusal ∷ discard ∷ command ∷ agree ∷ command ∷ discard ∷ discard ∷ refusal ∷ discard ∷ discard ∷ free ∷ discard ∷ discard ∷ accept ∷ command ∷ reject ∷ command ∷ fail ∷ discard ∷ discard ∷ refusal ∷ discard ∷ reject ∷ accept ∷ discard ∷ discard ∷ discard ∷ command ∷ fail ∷ discard ∷ discard ∷ refusal ∷ discard ∷ free ∷ discard ∷ discard ∷ reject ∷ confuse ∷ discard ∷ command ∷ agree ∷ free ∷ discard ∷ command ∷ agree ∷ discard ∷ refusal ∷ discard ∷ discard ∷ refusal ∷ discard ∷ refusal ∷ discard ∷ discard ∷ discard ∷ discard ∷ accept ∷ discard ∷ refusal ∷ discard ∷ discard ∷ refusal ∷ discard ∷ command ∷ discard ∷ refusal ∷ refusal ∷ []; kept = 1 ∷ 2 ∷ 3 ∷ 4 ∷ 5 ∷ 12 ∷ 13 ∷ 14 ∷ 15 ∷ 20 ∷ 21 ∷ 22 ∷ 23 ∷ 25 ∷ 26 ∷ 27 ∷ 28 ∷ 31 ∷ 32 ∷ 33 ∷ 34 ∷ 35 ∷ 36 ∷ 37 ∷ 40 ∷ 41 ∷ 42 ∷ 43 ∷ 44 ∷ 45 ∷ 46 ∷ 47 ∷ 48 ∷ 49 ∷ 50 ∷ 51 ∷ 52 ∷ 53 ∷ 54 ∷ 55 ∷ 56 ∷ 57 ∷ 58 ∷ 59 ∷ 60 ∷ 61 ∷ 62 ∷ 63 ∷ 64 ∷ 65 ∷ 66 ∷ 67 ∷ 68 ∷ [] }
    ∷ record { verdicts = command ∷ discard ∷ discard ∷ free ∷ command ∷ agree ∷ refusal ∷ accept ∷ command ∷ agree ∷ command ∷ discard ∷ fail ∷ command ∷ agree ∷ command ∷ discard ∷ discard ∷ discard ∷ refusal ∷ []; kept = 5 ∷ 6 ∷ 7 ∷ 8 ∷ 9 ∷ 10 ∷ 14 ∷ 15 ∷ 16 ∷ 17 ∷ 18 ∷ 19 ∷ 20 ∷ [] }
    ∷ record { verdicts = refusal ∷ reject ∷ accept ∷ command ∷ reject ∷ free ∷ reject ∷ command ∷ discard ∷ free ∷ accept ∷ refusal ∷ discard ∷ reject ∷ refusal ∷ discard ∷ command ∷ accept ∷ command ∷ fail ∷ accept ∷ command ∷ fail ∷ free ∷ discard ∷ accept ∷ command ∷ refusal ∷ fail ∷ accept ∷ free ∷ refusal ∷ command ∷ discard ∷ discard ∷ discard ∷ discard ∷ fail ∷ accept ∷ refusal ∷ free ∷ accept ∷ command ∷ agree ∷ command ∷ agree ∷ discard ∷ discard ∷ discard ∷ confuse ∷ command ∷ confuse ∷ refusal ∷ agree ∷ refusal ∷ command ∷ discard ∷ confuse ∷ fail ∷ refusal ∷ accept ∷ command ∷ reject ∷ command ∷ agree ∷ free ∷ reject ∷ command ∷ agree ∷ confuse ∷ refusal ∷ command ∷ discard ∷ agree ∷ reject ∷ free ∷ command ∷ agree ∷ command ∷ agree ∷ accept ∷ reject ∷ free ∷ reject ∷ discard ∷ refusal ∷ accept ∷ discard ∷ command ∷ reject ∷ reject ∷ refusal ∷ reject ∷ accept ∷ accept ∷ discard ∷ discard ∷ discard ∷ discard ∷ accept ∷ discard ∷ refusal ∷ command ∷ accept ∷ accept ∷ accept ∷ confuse ∷ command ∷ accept ∷ command ∷ agree ∷ confuse ∷ command ∷ refusal ∷ discard ∷ refusal ∷ fail ∷ command ∷ fail ∷ command ∷ agree ∷ command ∷ accept ∷ reject ∷ accept ∷ command ∷ accept ∷ []; kept = 1 ∷ 3 ∷ 6 ∷ 11 ∷ 12 ∷ 13 ∷ 15 ∷ 16 ∷ 18 ∷ 21 ∷ 24 ∷ 25 ∷ 26 ∷ 30 ∷ 31 ∷ 32 ∷ 39 ∷ 40 ∷ 41 ∷ 42 ∷ 43 ∷ 44 ∷ 45 ∷ 46 ∷ 47 ∷ 48 ∷ 49 ∷ 51 ∷ 53 ∷ 54 ∷ 55 ∷ 60 ∷ 61 ∷ 64 ∷ 65 ∷ 66 ∷ 68 ∷ 69 ∷ 71 ∷ 72 ∷ 73 ∷ 74 ∷ 76 ∷ 77 ∷ 78 ∷ 79 ∷ 80 ∷ 81 ∷ 83 ∷ 85 ∷ 86 ∷ 87 ∷ 88 ∷ 92 ∷ 94 ∷ 95 ∷ 96 ∷ 97 ∷ 98 ∷ 99 ∷ 100 ∷ 101 ∷ 102 ∷ 104 ∷ 105 ∷ 106 ∷ 109 ∷ 110 ∷ 111 ∷ 120 ∷ 121 ∷ 123 ∷ 125 ∷ 127 ∷ [] }
    ∷ []

struck_outside : map (λ x. left x.verdicts) cases ≡ map (λ x. x.kept) cases
unfolding cases left numbered refusal discard command agree fail free confuse accept reject sheet_of
struck_outside = refl
