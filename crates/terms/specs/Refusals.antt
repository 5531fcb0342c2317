-- The numbers of the reasons; a fault as a value: its number and its place; and a refusal, which has the line and the column of that place in the text too. Assumes nothing.
use Rattle.std.specs.Prelude.{List, ℕ}
use Rattle.terms.specs.declared.Fault.{Fault}
use Rattle.terms.specs.declared.Reason.{Reason}
use Rattle.terms.specs.declared.Refusal.{Refusal}
use Rattle.terms.specs.Places.{line_of, column_of}

abbrev pub fault_at : ℕ → ℕ → Fault
fault_at c a = record { number = c; place = a }

-- the refusal of a number at a place of the text s
abbrev pub refusal_in : List ℕ → ℕ → ℕ → Refusal
refusal_in s c a = record { number = c; place = a; line = line_of s a; column = column_of s a }

-- the number of each reason in documents 01 and 02
abbrev pub reason_number : Reason → ℕ
reason_number Reason.OutsideLimits = 1
reason_number Reason.LittleRoom = 2
reason_number Reason.StrayByte = 3
reason_number Reason.NoHead = 4
reason_number Reason.Misspelled = 5
reason_number Reason.WrongHead = 6
reason_number Reason.BareHead = 7
reason_number Reason.Misplaced = 8
reason_number Reason.OutOfRange = 9
reason_number Reason.CheckFailed = 10
reason_number Reason.TooMany = 11
reason_number Reason.TooFew = 12
reason_number Reason.NoCheckLine = 13
reason_number Reason.NoFit = 15
reason_number Reason.LongLine = 16
reason_number Reason.LongFile = 19
reason_number Reason.BadLabel = 20
reason_number Reason.NoTitle = 21
reason_number Reason.NoEnd = 22
reason_number Reason.LabelTwice = 23
reason_number Reason.StrayTitle = 24
reason_number Reason.NoRecord = 25
reason_number Reason.BadNumber = 26
reason_number Reason.OtherForm = 27
reason_number Reason.FarAbscissa = 28
reason_number Reason.WrongFirst = 29
reason_number Reason.NoProfileRecord = 30
reason_number Reason.UnlistedWord = 31
reason_number Reason.WrongBlocks = 32
reason_number Reason.TableInLink = 33
reason_number Reason.NoMark = 34
reason_number Reason.CutOff = 35
reason_number Reason.ManyFiles = 36
reason_number Reason.BadTitle = 37
