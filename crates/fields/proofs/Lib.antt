mod CopyLaws
