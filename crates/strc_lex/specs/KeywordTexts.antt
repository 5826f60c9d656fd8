-- How the keywords are written.
use Rattle.std.specs.Prelude.{ℕ, List, [], ◌∷◌, codes}
use Rattle.strc_lex.specs.declared.token.Keyword.{Keyword}
use Rattle.strc_lex.specs.declared.token.Keyword.TheVariants as keyword

abbrev pub keyword_text : Keyword → List ℕ
keyword_text keyword.Filter = codes "filter"
keyword_text keyword.Pipeline = codes "pipeline"
keyword_text keyword.Splitjoin = codes "splitjoin"
keyword_text keyword.Feedbackloop = codes "feedbackloop"
keyword_text keyword.Init = codes "init"
keyword_text keyword.Prework = codes "prework"
keyword_text keyword.Work = codes "work"
keyword_text keyword.Push = codes "push"
keyword_text keyword.Pop = codes "pop"
keyword_text keyword.Peek = codes "peek"
keyword_text keyword.Add = codes "add"
keyword_text keyword.Split = codes "split"
keyword_text keyword.Join = codes "join"
keyword_text keyword.Duplicate = codes "duplicate"
keyword_text keyword.Roundrobin = codes "roundrobin"
keyword_text keyword.Body = codes "body"
keyword_text keyword.Loop = codes "loop"
keyword_text keyword.Enqueue = codes "enqueue"
keyword_text keyword.If = codes "if"
keyword_text keyword.Else = codes "else"
keyword_text keyword.While = codes "while"
keyword_text keyword.For = codes "for"
keyword_text keyword.Int = codes "int"
keyword_text keyword.Boolean = codes "boolean"
keyword_text keyword.Void = codes "void"
keyword_text keyword.True = codes "true"
keyword_text keyword.False = codes "false"
keyword_text keyword.Print = codes "print"
keyword_text keyword.Println = codes "println"
keyword_text keyword.Identity = codes "Identity"
keyword_text keyword.FileReader = codes "FileReader"
keyword_text keyword.FileWriter = codes "FileWriter"
keyword_text keyword.Break = codes "break"
keyword_text keyword.Continue = codes "continue"
keyword_text keyword.Do = codes "do"
keyword_text keyword.Return = codes "return"
keyword_text keyword.Float = codes "float"
keyword_text keyword.Complex = codes "complex"
keyword_text keyword.Bit = codes "bit"
keyword_text keyword.Struct = codes "struct"
keyword_text keyword.Portal = codes "portal"

-- every keyword
abbrev pub all_keywords : List Keyword
all_keywords = keyword.Filter ∷ keyword.Pipeline ∷ keyword.Splitjoin ∷ keyword.Feedbackloop
    ∷ keyword.Init ∷ keyword.Prework ∷ keyword.Work ∷ keyword.Push ∷ keyword.Pop ∷ keyword.Peek
    ∷ keyword.Add ∷ keyword.Split ∷ keyword.Join ∷ keyword.Duplicate ∷ keyword.Roundrobin
    ∷ keyword.Body ∷ keyword.Loop ∷ keyword.Enqueue ∷ keyword.If ∷ keyword.Else ∷ keyword.While
    ∷ keyword.For ∷ keyword.Int ∷ keyword.Boolean ∷ keyword.Void ∷ keyword.True ∷ keyword.False
    ∷ keyword.Print ∷ keyword.Println ∷ keyword.Identity ∷ keyword.FileReader ∷ keyword.FileWriter
    ∷ keyword.Break ∷ keyword.Continue ∷ keyword.Do ∷ keyword.Return ∷ keyword.Float
    ∷ keyword.Complex ∷ keyword.Bit ∷ keyword.Struct ∷ keyword.Portal ∷ []
