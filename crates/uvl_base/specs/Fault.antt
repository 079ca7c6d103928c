-- How the faults of a model are numbered, named and printed.
use Rattle.std.specs.Prelude.{ℕ, ◌/◌, ◌%◌, List, ◌++◌, codes, decimal, encode_utf8_all}
use Rattle.uvl_base.specs.declared.fault.FaultKind.{FaultKind}
use Rattle.uvl_base.specs.declared.fault.FaultKind.TheVariants.{Absent, TooLong, NotUtf8, BadCharacter, BadIndent, Unclosed, NumberTooWide, Syntax, TypedFeature, FeatureCardinality, Average, UnsupportedOperation, DuplicateFeature, DuplicateAttribute, UnknownFeature, UnknownAttribute, ExpressionTooLarge, WrongSort, BadRange, ImportCycle, ImportDepth, PlacedTwice, TooManyFeatures, TooDeep, NotLinear, TooManyFiles, FactorTooLarge, MissingFeatures, BadImportName, BodyOnPlacedImport, TooManyRules, NotBuilt}
use Rattle.uvl_base.specs.declared.fault.ModelFault.{ModelFault}

-- the number of a kind of fault
abbrev pub number_of : FaultKind → ℕ
number_of Absent = 1
number_of TooLong = 2
number_of NotUtf8 = 3
number_of BadCharacter = 4
number_of BadIndent = 5
number_of Unclosed = 6
number_of NumberTooWide = 7
number_of Syntax = 8
number_of TypedFeature = 9
number_of FeatureCardinality = 10
number_of Average = 11
number_of UnsupportedOperation = 12
number_of DuplicateFeature = 13
number_of DuplicateAttribute = 14
number_of UnknownFeature = 15
number_of UnknownAttribute = 16
number_of ExpressionTooLarge = 17
number_of WrongSort = 18
number_of BadRange = 19
number_of ImportCycle = 20
number_of ImportDepth = 21
number_of PlacedTwice = 22
number_of TooManyFeatures = 23
number_of TooDeep = 24
number_of NotLinear = 25
number_of TooManyFiles = 26
number_of FactorTooLarge = 27
number_of MissingFeatures = 28
number_of BadImportName = 29
number_of BodyOnPlacedImport = 30
number_of TooManyRules = 31
number_of NotBuilt = 99

-- the name of a kind of fault
abbrev pub name_of : FaultKind → List ℕ
name_of Absent = codes "Absent"
name_of TooLong = codes "TooLong"
name_of NotUtf8 = codes "NotUtf8"
name_of BadCharacter = codes "BadCharacter"
name_of BadIndent = codes "BadIndent"
name_of Unclosed = codes "Unclosed"
name_of NumberTooWide = codes "NumberTooWide"
name_of Syntax = codes "Syntax"
name_of TypedFeature = codes "TypedFeature"
name_of FeatureCardinality = codes "FeatureCardinality"
name_of Average = codes "Average"
name_of UnsupportedOperation = codes "UnsupportedOperation"
name_of DuplicateFeature = codes "DuplicateFeature"
name_of DuplicateAttribute = codes "DuplicateAttribute"
name_of UnknownFeature = codes "UnknownFeature"
name_of UnknownAttribute = codes "UnknownAttribute"
name_of ExpressionTooLarge = codes "ExpressionTooLarge"
name_of WrongSort = codes "WrongSort"
name_of BadRange = codes "BadRange"
name_of ImportCycle = codes "ImportCycle"
name_of ImportDepth = codes "ImportDepth"
name_of PlacedTwice = codes "PlacedTwice"
name_of TooManyFeatures = codes "TooManyFeatures"
name_of TooDeep = codes "TooDeep"
name_of NotLinear = codes "NotLinear"
name_of TooManyFiles = codes "TooManyFiles"
name_of FactorTooLarge = codes "FactorTooLarge"
name_of MissingFeatures = codes "MissingFeatures"
name_of BadImportName = codes "BadImportName"
name_of BodyOnPlacedImport = codes "BodyOnPlacedImport"
name_of TooManyRules = codes "TooManyRules"
name_of NotBuilt = codes "NotBuilt"

-- a kind of fault as it is printed: `E`, two digits, a space and the name
unfoldable pub kind_text : FaultKind → List ℕ
kind_text kind =
    codes "E" ++ decimal (number_of kind / 10) ++ decimal (number_of kind % 10) ++ codes " " ++ name_of kind

-- a fault as it is printed: the file, the line and the column between colons, a space and the kind
unfoldable pub fault_text : ModelFault → List ℕ
fault_text fault =
    encode_utf8_all fault.file ++ codes ":" ++ decimal fault.place.line ++ codes ":" ++ decimal fault.place.column
    ++ codes " " ++ kind_text fault.kind
